-- What settling leaves of the history for which a gate's shop stands.
use Rattle.std.proofs.Common.{◌≡◌, ◌++◌, ◌∷◌, [], ℕ, false, List, Option, Some, None, inl, inr, refl, sym, ap, subst, ◌∙◌}
use Rattle.std.specs.Option.{is_some}
use Rattle.std.proofs.lemmas.List.{map-append}
use Rattle.octets.specs.Causes.{HasCause}
use Rattle.git_object.specs.Names.{log_name}
use Rattle.git_object.specs.Repository.{Repository}
use Rattle.std.specs.FinMap.{get}
use Rattle.keeper_api.specs.Changes.{changed}
use Rattle.keeper_api.specs.declared.keepers.Keeper as keeper
use Rattle.rsl_chain.specs.Chain.{last_of}
use Rattle.rsl_chain.specs.Entries.{Taken}
use Rattle.rsl_chain.proofs.Chains.{last_push}
use Rattle.pushes.specs.Steps.{change_of, early, ids_of, row_id}
use Rattle.pushes.specs.declared.rows.Row.{Row}
use Rattle.desk_turns.specs.Settling.{Settles, is_unsettled, settled_as}
use Rattle.desk_turns.specs.States as desks
use Rattle.desk_turns.specs.declared.settled.Settled.{Settled}
use Rattle.desk_turns.specs.declared.settled.Settled.TheVariants as settled_
use Rattle.desk_turns.specs.Histories.{History, with_member}
use Rattle.desk_turns.specs.Keeping.{HasMore}
use Rattle.desk_turns.specs.Legal.{last, rows}
use Rattle.desk_turns.specs.Standing.{IsDoubted, IsHeld, StandsFor}
use Rattle.desk_turns.proofs.Keeps.{not_there}
use Rattle.desk_turns.proofs.Settles.{settle_keeps}
use Rattle.desk_turns.specs.Shops as shops
use Rattle.desk_shops.proofs.Standing.{fits_few}
use Rattle.desk_core.specs.GateSteps.{Ledger, with_push}
use Rattle.desk_core.specs.Runs.{TakenIn}
use Rattle.desk_core.specs.States.{IsGateSettled, Judges, JudgesAt, is_clear}
use Rattle.desk_core.specs.declared.gate_state.GateState.{GateState}
use Rattle.desk_core.proofs.Settling.{settled_told}
use Rattle.desk_shops.specs.GateStanding.{IsDoubtedAt, IsHeldAt, IsJudgedAt, Stands}
use Rattle.desk_shops.specs.Steps.{stands_in}
use Rattle.desk_shops.proofs.Ledgers.{gated_more, judges_at, one_told, settled_of}

module _ {R : Type 0} (k : keeper.Ghosts R) (old new : R) (was now : GateState) (h : History) (is : Stands k old was h) where
  abbrev Tells : Settled → Type 0
  Tells settled = (r' : Repository) (log : List Taken) → k.content new ≡ Some r' → JudgesAt (k.content old) log was → IsGateSettled was now log r' settled

  -- what is told now, as it was judged before
  module _ (settled : Settled) (s : Settles k old new was.log now.log settled) (r' : Repository) (told : k.content new ≡ Some r') where
    abbrev held : k.content old ≡ Some r'
    held = settled_told k old new was.log now.log settled s r' told

    abbrev before : IsJudgedAt h r' was
    before = is.judged r' held

    told_by : Tells settled → IsGateSettled was now before.ledger.log r' settled
    told_by tells = tells r' before.ledger.log told (judges_at k old was h is r' held)

    -- nothing changed
    same_judged : now.log ≡ was.log → now.waiting ≡ was.waiting → Judges r' before.ledger.log now → IsJudgedAt h r' now
    same_judged log_is waits judges = record {
      ledger = before.ledger;
      gated = before.gated;
      judges = judges;
      held = subst (λ (o : Option (List ℕ)). IsHeldAt before.ledger r' now o) (ap (λ (d : desks.Desk). d.doubt) (sym log_is)) (with_waiting was.log.doubt before.held);
    }
      where
        with_waiting : (o : Option (List ℕ)) → IsHeldAt before.ledger r' was o → IsHeldAt before.ledger r' now o
        with_waiting None is_held = is_held
        with_waiting (Some id) is_held = record {
          push = is_held.push;
          id_is = is_held.id_is;
          waits = waits ∙ is_held.waits;
          taken = is_held.taken;
          allowed = is_held.allowed;
          one = is_held.one;
        }

  still : (settled : Settled) (s : Settles k old new was.log now.log settled) → Tells settled → StandsFor k new now.log h → ((r' : Repository) (told : k.content new ≡ Some r') → IsGateSettled was now (before settled s r' told).ledger.log r' settled → IsJudgedAt h r' now) → Stands k new now h
  still settled s tells desk judged = record { desk = desk; judged = λ r' told. judged r' told (told_by settled s r' told tells) }

  -- the doubt is dropped: the store holds the last repository
  cleared : (s : Settles k old new was.log now.log settled_.Clear) → Tells settled_.Clear → StandsFor k new now.log h → Stands k new now h × (is_some now.log.doubt ≡ false)
  cleared s tells desk =
      let now_clear : now.log.doubt ≡ None = ap (λ (d : desks.Desk). d.doubt) s.state in (
        still settled_.Clear s tells desk (λ r' told judges.
            let j = before settled_.Clear s r' told in
            let last_is : last h ≡ Some r' = (settled_of k new now h desk now_clear).held r' told in
            record {
              ledger = j.ledger;
              gated = j.gated;
              judges = judges;
              held = subst (IsHeldAt j.ledger r' now) (sym now_clear) (one_told (last h) r' j.ledger.repository last_is j.gated.last_is);
            }),
        ap is_some now_clear,
      )

  -- the entry in doubt is there: the store holds what its push makes
  taken_in : (id : List ℕ) (s : Settles k old new was.log now.log (settled_.TookIn id)) → Tells (settled_.TookIn id) → HasMore k new now.log h id 0 → shops.AddsOne (stands_in k) (now, new) h id 0
  taken_in id s tells more = record {
    member = more.member;
    id_is = more.id_is;
    seat_is = more.seat_is;
    few = (let doubted : IsDoubted k old h id = subst (IsHeld k old h) s.doubt is.desk.held in fits_few h doubted.push doubted.spelled doubted.fits);
    is_state = record { desk = more.stands; judged = λ r' told. judged r' told };
  }
    where
      now_clear : now.log.doubt ≡ None
      now_clear = ap (λ (d : desks.Desk). d.doubt) s.state

      judged : (r' : Repository) (told : k.content new ≡ Some r') → IsJudgedAt (with_member h more.member) r' now
      judged r' told =
          let j = before (settled_.TookIn id) s r' told in
          let g = j.ledger in
          let d : IsDoubtedAt g r' was id = subst (IsHeldAt g r' was) s.doubt j.held in
          let t = told_by (settled_.TookIn id) s r' told tells in
          let last_is = (settled_of k new now _ more.stands now_clear).held r' told in
          let rows_are : was.log.log ≡ g.rows = is.desk.log ∙ sym j.gated.rows_are in
          let rows_now : now.log.log ≡ was.log.log ++ record { id = id; seat = 0 } ∷ [] = ap (λ (x : desks.Desk). x.log) s.state in
          let tip_now = (more.stands.is_log r' last_is).last in
          let tip_was = (is.desk.is_log g.repository j.gated.last_is).last in
          let ids_now : ids_of now.log.log ≡ ids_of was.log.log ++ id ∷ [] = ap ids_of rows_now ∙ map-append row_id was.log.log (record { id = id; seat = 0 } ∷ []) in
          let at_id : last_of (ids_of now.log.log) ≡ Some id = ap last_of ids_now ∙ last_push (ids_of was.log.log) id in
          let made : r' ≡ changed (change_of g.rows d.push) g.repository = elim d.one [
            | inl same ↦ absurd (not_there was.log.log d.push (subst (λ (log : List Row). early log d.push.entry ≡ None) (sym rows_are) d.taken.fits)
                (tip_was ∙ ap (λ (x : Repository). get x.refs log_name) (sym same) ∙ sym tip_now ∙ at_id ∙ ap Some (sym d.id_is)))
            | inr made ↦ made
          ] in
          let next : Ledger = with_push g d.push 0 in
          let rows_next : next.rows ≡ rows (with_member h more.member) = (let back = sym rows_are in λ i. back i ++ record { id = d.id_is i; seat = 0 } ∷ []) ∙ sym rows_now ∙ more.stands.log in
          let both : Some t.entry ≡ Some d.push.entry = sym t.waited ∙ d.waits in
          let entry_is : t.entry ≡ d.push.entry = cc both in
          let log_is : g.log ++ record { entry = t.entry; repository = r' } ∷ [] ≡ next.log = λ i. g.log ++ record { entry = entry_is i; repository = made i } ∷ [] in
          record {
            ledger = next;
            gated = gated_more h more.member g next (TakenIn d.push) j.gated (record { taken = d.taken; allowed = d.allowed; after = refl }) rows_next (last_is ∙ ap Some made);
            judges = subst (λ (log : List Taken). Judges r' log now) log_is t.judges;
            held = subst (IsHeldAt next r' now) (sym now_clear) made;
          }

  pub settle_stands : (settled : Settled) → (is_clear settled ≡ false → now.waiting ≡ was.waiting) → Settles k old new was.log now.log settled → Tells settled → HasCause is_unsettled (k.faults old) (k.faults new) (settled_as settled)
      → shops.StandsSettled (stands_in k) (λ x. is_some x.0.log.doubt) (λ x. k.content x.1) (now, new) h settled
  settle_stands settled_.Clear waits s tells cause = cleared s tells (settle_keeps k old new was.log now.log settled_.Clear h is.desk s cause)
  settle_stands (settled_.TookIn id) waits s tells cause = taken_in id s tells (settle_keeps k old new was.log now.log (settled_.TookIn id) h is.desk s cause)
  settle_stands (settled_.Moved found expected) waits s tells cause =
      let kept = settle_keeps k old new was.log now.log (settled_.Moved found expected) h is.desk s cause in
      (still (settled_.Moved found expected) s tells kept.0 (λ r' told judges. same_judged (settled_.Moved found expected) s r' told s.state (waits refl) judges), kept.1)
  settle_stands settled_.Fault waits s tells cause = still settled_.Fault s tells (settle_keeps k old new was.log now.log settled_.Fault h is.desk s cause) (λ r' told judges. same_judged settled_.Fault s r' told s.state (waits refl) judges)
  settle_stands settled_.Memory waits s tells cause = still settled_.Memory s tells (settle_keeps k old new was.log now.log settled_.Memory h is.desk s cause) (λ r' told judges. same_judged settled_.Memory s r' told s.state (waits refl) judges)
