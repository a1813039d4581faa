-- What settling makes of what a gate's state judges.
use Rattle.std.proofs.Common.{◌≡◌, ◌++◌, ◌∷◌, [], ℕ, true, false, List, map, Option, Some, None, ⊎_elim, refl, sym, ap, subst, ◌∙◌}
use Rattle.std.specs.Prelude.{is_some}
use Rattle.std.proofs.lemmas.Bool.{true≢false}
use Rattle.std.proofs.lemmas.List.{map-append}
use Rattle.git_object.specs.Repository.{Repository}
use Rattle.keeper_api.specs.declared.keepers.Keeper as keeper
use Rattle.entry_rules.specs.Learning.{AreKnownIn}
use Rattle.rsl_chain.specs.Entries.{Taken}
use Rattle.rsl_chain.specs.declared.entries.Entry.{Entry}
use Rattle.verify_ref.specs.Following.{Follows}
use Rattle.verify_ref.specs.declared.engine.Engine.{Engine}
use Rattle.pushes.specs.Steps.{ids_of, row_id}
use Rattle.pushes.specs.declared.rows.Row.{Row}
use Rattle.desk_turns.specs.Settling.{KeepsTip, MayKeepTip, Settles}
use Rattle.desk_turns.specs.States as desks
use Rattle.desk_turns.specs.declared.settled.Settled.{Settled}
use Rattle.desk_turns.specs.declared.settled.Settled.TheVariants as settled_
use Rattle.desk_core.specs.Laws.{taken_id}
use Rattle.desk_core.specs.States.{IsAt, IsBehind, IsGateSettled, Judges, JudgesAt, KeepsDoubt, KnowsStore, is_clear}
use Rattle.desk_core.specs.declared.gate_state.GateState.{GateState}

-- what is told after settling was told before
module _ {R : Type 0} (k : keeper.Ghosts R) (old new : R) where
  tip_told : (value : Option (List ℕ)) → KeepsTip k old new value → (r : Repository) → k.content new ≡ Some r → k.content old ≡ Some r
  tip_told value tip r told = (let w = tip.held r told in w.1 ∙ ap Some (sym w.2.same))

  may_told : (value : Option (List ℕ)) → MayKeepTip k old new value → (r : Repository) → k.content new ≡ Some r → k.content old ≡ Some r
  may_told value tip r told = (let w = tip.held r told in w.1 ∙ ap Some (sym w.2.same))

  pub settled_told : (was now : desks.Desk) (settled : Settled) → Settles k old new was now settled → (r : Repository) → k.content new ≡ Some r → k.content old ≡ Some r
  settled_told was now settled_.Clear s r told = ⊎_elim (λ same. same.1.content r told) (λ tip. tip_told _ tip r told) s.store
  settled_told was now (settled_.TookIn id) s r told = tip_told _ s.store r told
  settled_told was now (settled_.Moved found expected) s r told = s.store.content r told
  settled_told was now settled_.Fault s r told = ⊎_elim (λ same. same.content r told) (⊎_elim (λ tip. may_told _ tip r told) (λ tip. may_told _ tip r told)) s.store
  settled_told was now settled_.Memory s r told = s.store.content r told

-- ---- a state whose log changed, and its kept entry where a doubt is dropped

module _ (r : Repository) (log : List Taken) (was now : GateState) (engine_is : now.engine ≡ was.engine) (is : Judges r log was) where
  anchored : now.engine.rules.anchor ≡ None
  anchored = ap (λ (e : Engine). e.rules.anchor) engine_is ∙ is.anchor

  -- nothing changed
  pub same_judges : now.log ≡ was.log → now.waiting ≡ was.waiting → Judges r log now
  same_judges log_is waits = record {
    rows = is.rows ∙ ap (λ (d : desks.Desk). ids_of d.log) (sym log_is);
    anchor = anchored;
    at = subst (λ (doubt : Option (List ℕ)). IsAt r log now.engine now.waiting doubt) (ap (λ (d : desks.Desk). d.doubt) (sym log_is))
        (subst (λ (waiting : Option Entry). IsAt r log now.engine waiting was.log.doubt) (sym waits) (subst (λ (e : Engine). IsAt r log e was.waiting was.log.doubt) (sym engine_is) is.at));
  }

  doubt_of : (id : List ℕ) → was.log.doubt ≡ Some id → KeepsDoubt log was.engine was.waiting id
  doubt_of id doubt = subst (λ (o : Option (List ℕ)). IsAt r log was.engine was.waiting o) doubt is.at

  -- the doubt is dropped
  pub dropped_judges : (id : List ℕ) → was.log.doubt ≡ Some id → now.log ≡ record { log = was.log.log; doubt = None } → now.waiting ≡ None → Judges r log now
  dropped_judges id doubt log_is none =
      let clear : now.log.doubt ≡ None = ap (λ (d : desks.Desk). d.doubt) log_is in
      let follows : Follows log now.engine = subst (λ (e : Engine). Follows log e) (sym engine_is) (doubt_of id doubt).follows in
      record {
        rows = is.rows ∙ ap (λ (d : desks.Desk). ids_of d.log) (sym log_is);
        anchor = anchored;
        at = subst (λ (o : Option (List ℕ)). IsAt r log now.engine now.waiting o) (sym clear) (subst (λ (waiting : Option Entry). IsBehind r log now.engine waiting) (sym none) follows);
      }

  -- the entry is taken in
  pub taken_judges : (id : List ℕ) (doubt : was.log.doubt ≡ Some id) → now.log ≡ desks.with_row was.log id 0 → now.waiting ≡ was.waiting
      → (entry : Entry) × (was.waiting ≡ Some entry) × (entry.id ≡ id) × Judges r (log ++ record { entry = entry; repository = r } ∷ []) now
  taken_judges id doubt log_is waits =
      let kept = doubt_of id doubt in
      let t : Taken = record { entry = kept.entry; repository = r } in
      let row : Row = record { id = id; seat = 0 } in
      let clear : now.log.doubt ≡ None = ap (λ (d : desks.Desk). d.doubt) log_is in
      let rows_now : map taken_id (log ++ t ∷ []) ≡ ids_of now.log.log =
      map-append taken_id log (t ∷ []) ∙ (λ i. is.rows i ++ kept.id_is i ∷ []) ∙ sym (map-append row_id was.log.log (row ∷ [])) ∙ ap (λ (d : desks.Desk). ids_of d.log) (sym log_is) in
      let behind : IsBehind r (log ++ t ∷ []) now.engine (Some kept.entry) = record { front = log; follows = subst (λ (e : Engine). Follows log e) (sym engine_is) kept.follows; is = refl } in (
        kept.entry,
        kept.waits,
        kept.id_is,
        record {
          rows = rows_now;
          anchor = anchored;
          at = subst (λ (o : Option (List ℕ)). IsAt r (log ++ t ∷ []) now.engine now.waiting o) (sym clear)
              (subst (λ (waiting : Option Entry). IsBehind r (log ++ t ∷ []) now.engine waiting) (sym (waits ∙ kept.waits)) behind);
        },
      )

-- ---- all answers

-- the entry that is kept after settling
abbrev pub WaitsAfter : GateState → GateState → Settled → Type 0
WaitsAfter was now settled =
    ((was.log.doubt ≡ None) → now.waiting ≡ was.waiting) × ((is_clear settled ≡ false) → now.waiting ≡ was.waiting)
    × ((id : List ℕ) → was.log.doubt ≡ Some id → is_clear settled ≡ true → now.waiting ≡ None)

-- the doubt is dropped, and its entry with it
pub waits_dropped : (was now : GateState) (settled : Settled) → is_some was.log.doubt ≡ true → is_clear settled ≡ true → now.waiting ≡ None → WaitsAfter was now settled
waits_dropped was now settled some clear none = (
  λ doubt. absurd (true≢false (sym some ∙ ap is_some doubt)),
  λ unclear. absurd (true≢false (sym clear ∙ unclear)),
  λ id doubt now_clear. none,
)

-- nothing was in doubt
pub waits_free : (was now : GateState) (settled : Settled) → is_some was.log.doubt ≡ false → now.waiting ≡ was.waiting → WaitsAfter was now settled
waits_free was now settled none same = (λ doubt. same, λ unclear. same, λ id doubt clear. absurd (true≢false (sym (ap is_some doubt) ∙ none)))

-- the doubt stays, or its entry is taken in
pub waits_kept : (was now : GateState) (settled : Settled) → is_clear settled ≡ false → now.waiting ≡ was.waiting → WaitsAfter was now settled
waits_kept was now settled unclear same = (λ doubt. same, λ also. same, λ id doubt clear. absurd (true≢false (sym clear ∙ unclear)))

-- what is known of trees stays known
pub known_settled : {R : Type 0} (k : keeper.Ghosts R) (old new : R) (was now : desks.Desk) (settled : Settled) (before after : Engine) → after ≡ before → Settles k old new was now settled → KnowsStore k old before → KnowsStore k new after
known_settled k old new was now settled before after same s known r told =
    subst (λ (e : Engine). AreKnownIn r e.known) (sym same) (known r (settled_told k old new was now settled s r told))

module _ {R : Type 0} (k : keeper.Ghosts R) (old new : R) (was now : GateState) (engine_is : now.engine ≡ was.engine) (log : List Taken) (r : Repository) (told : k.content new ≡ Some r) (judged : JudgesAt (k.content old) log was) where
  pub settled_gate : (settled : Settled) → WaitsAfter was now settled → Settles k old new was.log now.log settled → IsGateSettled was now log r settled
  settled_gate settled_.Clear waits s = by_doubt was.log.doubt refl where
    is : Judges r log was
    is = judged r (settled_told k old new was.log now.log settled_.Clear s r told)

    by_doubt : (o : Option (List ℕ)) → was.log.doubt ≡ o → Judges r log now
    by_doubt None none = same_judges r log was now engine_is is (s.state ∙ ap (λ (d : Option (List ℕ)). record { log = was.log.log; doubt = d }) (sym none)) (waits.0 none)
    by_doubt (Some id) some = dropped_judges r log was now engine_is is id some s.state (waits.2 id some refl)
  settled_gate (settled_.TookIn id) waits s =
      let w = taken_judges r log was now engine_is (judged r (settled_told k old new was.log now.log (settled_.TookIn id) s r told)) id s.doubt s.state (waits.1 refl) in
      record { entry = w.0; waited = w.1; id_is = w.2; judges = w.3 }
  settled_gate (settled_.Moved found expected) waits s = same_judges r log was now engine_is (judged r (s.store.content r told)) s.state (waits.1 refl)
  settled_gate settled_.Fault waits s = same_judges r log was now engine_is (judged r (settled_told k old new was.log now.log settled_.Fault s r told)) s.state (waits.1 refl)
  settled_gate settled_.Memory waits s = same_judges r log was now engine_is (judged r (s.store.content r told)) s.state (waits.1 refl)
