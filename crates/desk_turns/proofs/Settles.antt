-- What settling leaves of what a desk's log and its store stand for.
use Rattle.std.proofs.Common.{◌≡◌, ℕ, ◌≤◌, true, List, [], Option, Some, None, inl, inr, ⊎_elim, refl, sym, ap, subst, ◌∙◌, arith}
use Rattle.std.specs.Prelude.{◌⊎◌}
use Rattle.std.specs.FinMap.{get}
use Rattle.octets.specs.Causes.{one_more}
use Rattle.git_object.specs.Names.{log_name}
use Rattle.git_object.specs.Repository.{Repository}
use Rattle.keeper_api.specs.Changes.{changed}
use Rattle.keeper_api.specs.Undisturbed.{Undisturbed}
use Rattle.keeper_api.specs.declared.keepers.Keeper as keeper
use Rattle.rsl_chain.specs.Chain.{last_of}
use Rattle.rsl_chain.specs.Logs.{IsLogOf}
use Rattle.pushes.specs.declared.pushed.Push.{Push}
use Rattle.desk_turns.specs.Histories.{History}
use Rattle.pushes.specs.Steps.{IsTaken, change_of, early, ids_of}
use Rattle.pushes.specs.declared.rows.Row.{Row}
use Rattle.pushes.proofs.LogGrowth.{at_entry}
use Rattle.desk_turns.specs.Settling.{KeepsTip, MayKeepTip}
use Rattle.desk_turns.specs.States.{Desk, with_row}
use Rattle.desk_turns.specs.declared.settled.Settled.TheVariants as settled_
use Rattle.desk_turns.specs.Keeping.{HasMore, SettleKeeps}
use Rattle.desk_turns.specs.Legal.{Rose, Took, faults, last, rows}
use Rattle.desk_turns.specs.Standing.{IsDoubted, IsHeld, IsOneOf, IsSettled, StandsFor}
use Rattle.desk_turns.proofs.Keeps.{grown, not_there, rose_on, same_stands}

-- ---- settling

module _ {R : Type 0} (k : keeper.Ghosts R) (old new : R) (h : History) where
  -- the log's reference at the tip: the push in doubt did not come
  at_tip : (log : List Row) (push : Push) (r was : Repository) → early log push.entry ≡ None → IsLogOf was (ids_of log) → (r ≡ was) ⊎ (r ≡ changed (change_of log push) was) → get r.refs log_name ≡ last_of (ids_of log) → r ≡ was
  at_tip log push r was fits is_log (inl same) tip = same
  at_tip log push r was fits is_log (inr made) tip =
      absurd (not_there log push fits (sym tip ∙ ap (λ (x : Repository). get x.refs log_name) made ∙ at_entry log was push))

  -- at the entry: it came
  at_entry_in_doubt : (log : List Row) (push : Push) (r was : Repository) → early log push.entry ≡ None → IsLogOf was (ids_of log) → (r ≡ was) ⊎ (r ≡ changed (change_of log push) was) → get r.refs log_name ≡ Some push.entry.id
      → r ≡ changed (change_of log push) was
  at_entry_in_doubt log push r was fits is_log (inr made) there = made
  at_entry_in_doubt log push r was fits is_log (inl same) there =
      absurd (not_there log push fits (is_log.last ∙ sym (ap (λ (x : Repository). get x.refs log_name) same) ∙ there))

  cleared_held : (log : List Row) (doubt : Option (List ℕ)) → log ≡ rows h → ((r : Repository) → last h ≡ Some r → IsLogOf r (ids_of log)) → KeepsTip k old new (last_of (ids_of log)) → k.faults new ≡ k.faults old → IsHeld k old h doubt → IsSettled k new h
  cleared_held log None log_is is_log tip count_is is = record {
    held = λ r e. (let w = tip.held r e in is.held w.0 w.1 ∙ ap Some (sym w.2.same));
    counted = let c = is.counted in omega (arith, c, count_is);
    stop = tip.stop;
  }
  cleared_held log (Some id) log_is is_log tip count_is is = record {
    held = λ r e.
        let w = tip.held r e in
        let one = is.held w.0 w.1 in
        let fits : early log is.push.entry ≡ None = subst (λ (l : List Row). early l is.push.entry ≡ None) (sym log_is) is.fits in
        let either : (w.0 ≡ one.was) ⊎ (w.0 ≡ changed (change_of log is.push) one.was) = subst (λ (l : List Row). (w.0 ≡ one.was) ⊎ (w.0 ≡ changed (change_of l is.push) one.was)) (sym log_is) one.one in
        one.last_is ∙ ap Some (sym (w.2.same ∙ at_tip log is.push w.0 one.was fits (is_log one.was one.last_is) either w.2.value_is));
    counted = let c = is.rose.later in omega (arith, c, count_is);
    stop = tip.stop;
  }

  pub cleared_stands : (was now : Desk) → now ≡ record { log = was.log; doubt = None } → KeepsTip k old new (last_of (ids_of was.log)) → k.faults new ≡ k.faults old → StandsFor k old was h → StandsFor k new now h
  cleared_stands was now state tip count_is is = subst (λ (d : Desk). StandsFor k new d h) (sym state) (record {
    legal = is.legal;
    log = is.log;
    is_log = is.is_log;
    held = cleared_held was.log was.doubt is.log is.is_log tip count_is is.held;
  })

  doubt_of : (was : Desk) (id : List ℕ) → StandsFor k old was h → was.doubt ≡ Some id → IsDoubted k old h id
  doubt_of was id is e = subst (λ (d : Option (List ℕ)). IsHeld k old h d) e is.held

  pub taken_stands : (was now : Desk) (id : List ℕ) → was.doubt ≡ Some id → now ≡ with_row was id 0 → KeepsTip k old new (Some id) → k.faults new ≡ k.faults old → StandsFor k old was h → HasMore k new now h id 0
  taken_stands was now id doubt state tip count_is is =
      let d = doubt_of was id is doubt in
      let fits : early was.log d.push.entry ≡ None = subst (λ (l : List Row). early l d.push.entry ≡ None) (sym is.log) d.fits in
      let took : Took was.log (last h) id (k.content new) = record {
        push = d.push;
        spelled = d.spelled;
        id_is = d.id_is;
        fits = fits;
        step = λ r e.
            let w = tip.held r e in
            let one = d.held w.0 w.1 in
            let either : (w.0 ≡ one.was) ⊎ (w.0 ≡ changed (change_of was.log d.push) one.was) = subst (λ (l : List Row). (w.0 ≡ one.was) ⊎ (w.0 ≡ changed (change_of l d.push) one.was)) (sym is.log) one.one in
            let made = at_entry_in_doubt was.log d.push w.0 one.was fits (is.is_log one.was one.last_is) either (w.2.value_is ∙ ap Some (sym d.id_is)) in
            (one.was, one.last_is, (subst (λ (l : List Row). IsTaken l one.was d.push) (sym is.log) one.taken, w.2.same ∙ made));
      } in
      let now_rose : Rose (faults h) (k.faults new) = subst (λ (n : ℕ). Rose (faults h) n) (sym count_is) d.rose in
      subst (λ (x : Desk). HasMore k new x h id 0) (sym state) (grown k old new h was is id 0 took now_rose.later (λ _. now_rose) tip.stop)

  -- that failed
  kept_held : (value doubt : Option (List ℕ)) → MayKeepTip k old new value → k.faults old ≤ k.faults new → k.faults new ≡ one_more (k.faults old) → IsHeld k old h doubt → IsHeld k new h doubt
  kept_held value None tip later risen is = record {
    held = λ r e. (let w = tip.held r e in is.held w.0 w.1 ∙ ap Some (sym w.2.same));
    counted = let c = is.counted in omega (arith, c, later);
    stop = λ tells w e r left.
        let v = tip.held w e in
        ⊎_elim (λ past. is.stop (tip.tells tells) v.0 v.1 r past ∙ sym v.2.same) (λ here. (let both : Some r ≡ Some v.0 = sym here ∙ v.1 in let same : r ≡ v.0 = cc both in same ∙ sym v.2.same)) (tip.stop tells r left);
  }
  kept_held value (Some id) tip later risen is = record {
    push = is.push;
    spelled = is.spelled;
    id_is = is.id_is;
    fits = is.fits;
    held = λ r e. (let w = tip.held r e in subst (λ (x : Repository). IsOneOf h is.push x) (sym w.2.same) (is.held w.0 w.1));
    rose = rose_on (faults h) (k.faults old) (k.faults new) is.rose later (inr risen);
    stop = λ tells w e r left. (let v = tip.held w e in ⊎_elim (λ past. is.stop (tip.tells tells) v.0 v.1 r past) (λ here. is.held r here) (tip.stop tells r left));
  }

  pub kept_stands : (value : Option (List ℕ)) (was now : Desk) → now ≡ was → MayKeepTip k old new value → k.faults old ≤ k.faults new → k.faults new ≡ one_more (k.faults old) → StandsFor k old was h → StandsFor k new now h
  kept_stands value was now state tip later risen is = subst (λ (d : Desk). StandsFor k new d h) (sym state) (record {
    legal = is.legal;
    log = is.log;
    is_log = is.is_log;
    held = kept_held value was.doubt tip later risen is.held;
  })

  -- over a store that tells what it holds the log's reference is nowhere else
  told_nowhere : (log : List Row) (doubt : Option (List ℕ)) (content : Option Repository) → k.content new ≡ content → log ≡ rows h → ((r : Repository) → last h ≡ Some r → IsLogOf r (ids_of log)) → IsHeld k new h doubt
      → ((r : Repository) → k.content new ≡ Some r → get r.refs log_name ≡ last_of (ids_of log) → ⊥) → ((r : Repository) → k.content new ≡ Some r → get r.refs log_name ≡ doubt → ⊥) → content ≡ None
  told_nowhere log doubt None told log_is is_log is tip in_it = refl
  told_nowhere log None (Some r) told log_is is_log is tip in_it = absurd (tip r told (sym (is_log r (is.held r told)).last))
  told_nowhere log (Some id) (Some r) told log_is is_log is tip in_it =
      let one = is.held r told in
      absurd (elim one.one [
        | inl same ↦ tip r told (ap (λ (x : Repository). get x.refs log_name) same ∙ sym (is_log one.was one.last_is).last)
        | inr made ↦ in_it r told (ap (λ (x : Repository). get x.refs log_name) made ∙ at_entry (rows h) one.was is.push ∙ ap Some is.id_is)
      ])

  pub moved_stands : (was now : Desk) → now ≡ was → Undisturbed k old new → k.faults old ≤ k.faults new → k.faults new ≡ k.faults old
      → ((r : Repository) → k.content new ≡ Some r → get r.refs log_name ≡ last_of (ids_of was.log) → ⊥) → ((r : Repository) → k.content new ≡ Some r → get r.refs log_name ≡ was.doubt → ⊥)
      → StandsFor k old was h → StandsFor k new now h × (k.content new ≡ None)
  moved_stands was now state same later count_is tip in_it is =
      let stands = same_stands k old new h was now state same later (inl count_is) is in
      let here : StandsFor k new was h = subst (λ (d : Desk). StandsFor k new d h) state stands in
      (stands, told_nowhere was.log was.doubt (k.content new) refl here.log here.is_log here.held tip in_it)

pub settle_keeps : {R : Type 0} (k : keeper.Ghosts R) → SettleKeeps k
settle_keeps k old new was now settled_.Clear h is s cause = elim s.store [
  | inl none ↦ same_stands k old new h was now (s.state ∙ ap (λ (d : Option (List ℕ)). record { log = was.log; doubt = d }) (sym none.0)) none.1 cause.later (inl cause.is) is
  | inr tip ↦ cleared_stands k old new h was now s.state tip cause.is is
]
settle_keeps k old new was now (settled_.TookIn id) h is s cause = taken_stands k old new h was now id s.doubt s.state s.store cause.is is
settle_keeps k old new was now (settled_.Moved found expected) h is s cause = moved_stands k old new h was now s.state s.store cause.later cause.is s.not_tip s.not_doubt is
settle_keeps k old new was now settled_.Fault h is s cause = elim s.store [
  | inl same ↦ same_stands k old new h was now s.state same cause.later (inr cause.is) is
  | inr (inl tip) ↦ kept_stands k old new h _ was now s.state tip cause.later cause.is is
  | inr (inr tip) ↦ kept_stands k old new h _ was now s.state tip cause.later cause.is is
]
settle_keeps k old new was now settled_.Memory h is s cause = same_stands k old new h was now s.state s.store cause.later (inl cause.is) is
