-- What a gate's step makes of the log, the store and what was judged.
use Rattle.std.proofs.Common.{◌≡◌, ◌++◌, ◌∷◌, ◌||◌, [], ℕ, false, List, map, Option, Some, None, inl, inr, refl, sym, ap, subst, ◌∙◌}
use Rattle.std.specs.Prelude.{is_some}
use Rattle.std.proofs.lemmas.List.{map-append}
use Rattle.git_object.specs.Repository.{Repository}
use Rattle.keeper_api.specs.Changes.{changed}
use Rattle.keeper_api.specs.Undisturbed.{Undisturbed}
use Rattle.keeper_api.specs.declared.keepers.Keeper as keeper
use Rattle.entry_rules.specs.Learning.{AreKnownIn}
use Rattle.rsl_chain.specs.Entries.{Taken}
use Rattle.rsl_chain.specs.declared.entries.Entry.{Entry}
use Rattle.verify_ref.specs.Following.{Follows}
use Rattle.verify_ref.specs.declared.engine.Engine.{Engine}
use Rattle.pushes.specs.declared.pushed.Push.{Push}
use Rattle.pushes.specs.Steps.{change_of, ids_of, row_id}
use Rattle.pushes.specs.declared.replies.Reply.{Reply}
use Rattle.pushes.specs.declared.replies.Reply.TheVariants as reply_
use Rattle.pushes.specs.declared.rows.Row.{Row}
use Rattle.desk_turns.specs.States as desks
use Rattle.desk_turns.proofs.Taking.{steps_from}
use Rattle.desk_core.specs.Laws.{taken_id}
use Rattle.desk_core.specs.Adding.{IsAllowed, taken_of}
use Rattle.desk_core.specs.GateSteps.{GateReplies, ledger_after}
use Rattle.desk_core.specs.States.{GateRefuses, GateSteps, IsAt, IsBehind, IsGateStep, IsStepped, IsStill, Judges, SaysWhy, is_done, kept_where, ledger_of}
use Rattle.desk_core.specs.declared.gate_replies.GateReply.{GateReply}
use Rattle.desk_core.specs.declared.gate_replies.GateReply.TheVariants.{Denied, Desk}
use Rattle.desk_core.specs.declared.gate_state.GateState.{GateState}
use Rattle.desk_core.proofs.Judging.{follows_of}

pub fits_on : {R : Type 0} (k : keeper.Ghosts R) (old new : R) (rows : List Row) (push : Push) → Undisturbed k old new → desks.Fits (k.content old) rows push → desks.Fits (k.content new) rows push
fits_on k old new rows push same fits = record { fits = fits.fits; complete = λ r told. fits.complete r (same.content r told) }

-- and so of the log that it was
pub fits_from : {R : Type 0} (k : keeper.Ghosts R) (old new : R) (was mid : desks.Desk) (push : Push) → mid ≡ was → Undisturbed k old new → desks.Fits (k.content old) mid.log push → desks.Fits (k.content new) was.log push
fits_from k old new was mid push log_is same fits = fits_on k old new was.log push same (subst (λ (d : desks.Desk). desks.Fits (k.content old) d.log push) log_is fits)

pub grown_from : {R : Type 0} (k : keeper.Ghosts R) (store : R) (was mid : desks.Desk) (push : Push) (engine : Engine) → mid ≡ was → ((r : Repository) → k.content store ≡ Some r → AreKnownIn (changed (change_of mid.log push) r) engine.known)
    → (r : Repository) → k.content store ≡ Some r → AreKnownIn (changed (change_of was.log push) r) engine.known
grown_from k store was mid push engine log_is grown r told = subst (λ (d : desks.Desk). AreKnownIn (changed (change_of d.log push) r) engine.known) log_is (grown r told)

module _ {R : Type 0} (k : keeper.Ghosts R) (old new : R) (was now : desks.Desk) (push : Push) (seat : ℕ) (same : Undisturbed k old new) (state : now ≡ was) where
  answered : (reply : Reply) → desks.Refuses (k.content new) was.log push reply → desks.IsAnswered k old new was now push reply
  answered reply why = record { state = state; same = same; why = why }

  refused : (reply : Reply) → desks.Refuses (k.content new) was.log push reply → desks.Steps k old new was now push seat reply
  refused (reply_.Done number id) why = absurd why
  refused (reply_.Already number) why = answered (reply_.Already number) why
  refused (reply_.Stale number id) why = answered (reply_.Stale number id) why
  refused (reply_.Malformed at) why = why
  refused (reply_.Incomplete id) why = answered (reply_.Incomplete id) why
  refused (reply_.TooLarge size) why = why
  refused (reply_.Misnumbered number expected) why = answered (reply_.Misnumbered number expected) why
  refused (reply_.Moved found expected) why = why
  refused reply_.Fault why = inl (answered reply_.Fault why)
  refused reply_.Memory why = answered reply_.Memory why

  -- a push that is not taken leaves all as it was
  pub refused_steps : (reply : GateReply) → GateRefuses (k.content new) was.log push reply → GateSteps k old new was now push seat reply
  refused_steps (Desk reply) why = refused reply why
  refused_steps (Denied number line) why = record { state = state; same = same; fits = why.0; number_is = why.1 }

module _ {R : Type 0} (k : keeper.Ghosts R) (old new : R) (was now : GateState) (push : Push) (seat : ℕ) (log : List Taken) (r' : Repository) (told : k.content new ≡ Some r') where
  ledger_same : now.log ≡ was.log → ledger_of now log r' ≡ ledger_of was log r'
  ledger_same state = ap (λ (d : desks.Desk). record { rows = d.log; log = log; repository = r' }) state

  module _ (same : Undisturbed k old new) (state : now.log ≡ was.log) (judges : Judges r' log now) where
    stepped : (reply : GateReply) → GateReplies (ledger_of was log r') push reply → (ledger_of now log r' ≡ ledger_of was log r' → ledger_of now log r' ≡ ledger_after (ledger_of was log r') push seat reply)
        → IsStepped k old new was now log r' push seat reply
    stepped reply replies after = record {
      r = r';
      told = same.content r' told;
      log_now = log;
      step = record { replies = replies; after = after (ledger_same state) };
      judges = judges;
    }

    -- where it tells
    pub refused_gate : (reply : GateReply) → GateRefuses (k.content new) was.log.log push reply → SaysWhy log was.log.log r' push reply → IsGateStep k old new was now log r' push seat reply
    refused_gate (Desk (reply_.Done number id)) why says = absurd why
    refused_gate (Desk (reply_.Already number)) why says = stepped (Desk (reply_.Already number)) why (λ e. e)
    refused_gate (Desk (reply_.Stale number id)) why says = stepped (Desk (reply_.Stale number id)) why (λ e. e)
    refused_gate (Desk (reply_.Malformed at)) why says = why
    refused_gate (Desk (reply_.Incomplete id)) why says = stepped (Desk (reply_.Incomplete id)) (why.0, why.2 r' told) (λ e. e)
    refused_gate (Desk (reply_.TooLarge size)) why says = why
    refused_gate (Desk (reply_.Misnumbered number expected)) why says = stepped (Desk (reply_.Misnumbered number expected)) why (λ e. e)
    refused_gate (Desk (reply_.Moved found expected)) why says = why
    refused_gate (Desk reply_.Fault) why says = inl (record { told = same.content r' told; log_is = state; judges = judges })
    refused_gate (Desk reply_.Memory) why says = record { told = same.content r' told; log_is = state; judges = judges }
    refused_gate (Denied number line) why says =
        let fits = why.0 in
        stepped (Denied number line) (record {
          taken = record { fits = fits.fits; complete = fits.complete r' told };
          fault = says.fault;
          refused = says.refused;
          number_is = why.1;
          line_is = says.line_is;
        }) (λ e. e)

-- ---- a push that is let through

-- what a state judges that has no entry kept and nothing in doubt
judges_clear : (r : Repository) (log : List Taken) (state : GateState) → map taken_id log ≡ ids_of state.log.log → state.engine.rules.anchor ≡ None → state.log.doubt ≡ None → state.waiting ≡ None → Follows log state.engine → Judges r log state
judges_clear r log state rows anchor clear none follows = record {
  rows = rows;
  anchor = anchor;
  at = subst (λ (doubt : Option (List ℕ)). IsAt r log state.engine state.waiting doubt) (sym clear) (subst (λ (waiting : Option Entry). IsBehind r log state.engine waiting) (sym none) follows);
}

module _ {R : Type 0} (k : keeper.Ghosts R) (old mid new : R) (was ready now : GateState) (push : Push) (seat : ℕ) (log : List Taken) where
  -- the state by which it was let through has the log, nothing in doubt and no entry that is kept
  pub record IsLetThrough : Type 0 where
    pub log_is : ready.log ≡ was.log
    pub clear : was.log.doubt ≡ None
    pub none : ready.waiting ≡ None
    pub same : Undisturbed k old mid
    pub engine_is : now.engine ≡ ready.engine
    pub allowed : (r : Repository) → k.content mid ≡ Some r → IsAllowed log was.log.log r push
    pub judges : (r : Repository) → k.content mid ≡ Some r → Judges r log ready

  module _ (let_in : IsLetThrough) (r' : Repository) (told : k.content new ≡ Some r') where
    ready_clear : ready.log.doubt ≡ None
    ready_clear = ap (λ (d : desks.Desk). d.doubt) let_in.log_is ∙ let_in.clear

    follows : (r : Repository) → k.content mid ≡ Some r → Follows log now.engine
    follows r held = subst (λ (e : Engine). Follows log e) (sym let_in.engine_is) (follows_of r log ready ready_clear let_in.none (let_in.judges r held))

    rows_are : (r : Repository) → k.content mid ≡ Some r → map taken_id log ≡ ids_of was.log.log
    rows_are r held = (let_in.judges r held).rows ∙ ap (λ (d : desks.Desk). ids_of d.log) let_in.log_is

    anchored : (r : Repository) → k.content mid ≡ Some r → now.engine.rules.anchor ≡ None
    anchored r held = ap (λ (e : Engine). e.rules.anchor) let_in.engine_is ∙ (let_in.judges r held).anchor

    -- nothing was taken
    still : (reply : Reply) → is_done reply ≡ false → now.waiting ≡ kept_where (is_done reply || is_some now.log.doubt) push.entry → desks.IsAnswered k mid new was.log now.log push reply → Judges r' log now
    still reply not_done waits s =
        let held = s.same.content r' told in
        let clear : now.log.doubt ≡ None = ap (λ (d : desks.Desk). d.doubt) s.state ∙ let_in.clear in
        let none : now.waiting ≡ None = waits ∙ (λ i. kept_where (not_done i || is_some (clear i)) push.entry) in
        judges_clear r' log now (rows_are r' held ∙ ap (λ (d : desks.Desk). ids_of d.log) (sym s.state)) (anchored r' held) clear none (follows r' held)

    answered_step : (reply : Reply) → is_done reply ≡ false → now.waiting ≡ kept_where (is_done reply || is_some now.log.doubt) push.entry → (s : desks.IsAnswered k mid new was.log now.log push reply)
        → GateReplies (ledger_of was log r') push (Desk reply) → ledger_after (ledger_of was log r') push seat (Desk reply) ≡ ledger_of was log r' → IsStepped k old new was now log r' push seat (Desk reply)
    answered_step reply not_done waits s replies nothing = record {
      r = r';
      told = let_in.same.content r' (s.same.content r' told);
      log_now = log;
      step = record { replies = replies; after = ap (λ (d : desks.Desk). record { rows = d.log; log = log; repository = r' }) s.state ∙ sym nothing };
      judges = still reply not_done waits s;
    }

    still_step : (reply : Reply) → is_done reply ≡ false → now.waiting ≡ kept_where (is_done reply || is_some now.log.doubt) push.entry → (s : desks.IsAnswered k mid new was.log now.log push reply) → IsStill k old new was now log r'
    still_step reply not_done waits s = record { told = let_in.same.content r' (s.same.content r' told); log_is = s.state; judges = still reply not_done waits s }

    pub taken_gate : (reply : Reply) → now.waiting ≡ kept_where (is_done reply || is_some now.log.doubt) push.entry → desks.Steps k mid new was.log now.log push seat reply → IsGateStep k old new was now log r' push seat (Desk reply)
    taken_gate (reply_.Done number id) waits s =
        let w = s.step r' told in
        let r = w.0 in
        let held = w.1 in
        let t = taken_of was.log.log r push in
        let row : Row = record { id = push.entry.id; seat = seat } in
        let clear : now.log.doubt ≡ None = ap (λ (d : desks.Desk). d.doubt) s.state in
        let rows_now : map taken_id (log ++ t ∷ []) ≡ ids_of now.log.log =
        map-append taken_id log (t ∷ []) ∙ ap (λ (ids : List (List ℕ)). ids ++ push.entry.id ∷ []) (rows_are r held) ∙ sym (map-append row_id was.log.log (row ∷ [])) ∙ ap ids_of (sym w.2.log_is) in
        let last : log ++ t ∷ [] ≡ log ++ record { entry = push.entry; repository = r' } ∷ [] = ap (λ (x : Repository). log ++ record { entry = push.entry; repository = x } ∷ []) (sym w.2.repository_is) in
        let behind : IsBehind r' (log ++ t ∷ []) now.engine (Some push.entry) = record { front = log; follows = follows r held; is = last } in
        record {
          r = r;
          told = let_in.same.content r held;
          log_now = log ++ t ∷ [];
          step = record { replies = (w.2.replies, let_in.allowed r held); after = λ i. record { rows = w.2.log_is i; log = log ++ t ∷ []; repository = w.2.repository_is i } };
          judges = record {
            rows = rows_now;
            anchor = anchored r held;
            at = subst (λ (doubt : Option (List ℕ)). IsAt r' (log ++ t ∷ []) now.engine now.waiting doubt) (sym clear) (subst (λ (waiting : Option Entry). IsBehind r' (log ++ t ∷ []) now.engine waiting) (sym waits) behind);
          };
        }
    taken_gate (reply_.Already number) waits s = answered_step (reply_.Already number) refl waits s s.why refl
    taken_gate (reply_.Stale number id) waits s = answered_step (reply_.Stale number id) refl waits s s.why refl
    taken_gate (reply_.Malformed at) waits s = s
    taken_gate (reply_.Incomplete id) waits s = answered_step (reply_.Incomplete id) refl waits s (s.why.0, s.why.2 r' told) refl
    taken_gate (reply_.TooLarge size) waits s = s
    taken_gate (reply_.Misnumbered number expected) waits s = answered_step (reply_.Misnumbered number expected) refl waits s s.why refl
    taken_gate (reply_.Moved found expected) waits s = s
    taken_gate reply_.Fault waits (inl s) = inl (still_step reply_.Fault refl waits s)
    taken_gate reply_.Fault waits (inr s) =
        let w = s.held r' told in
        let r = w.0 in
        let held = w.1 in
        let doubt : now.log.doubt ≡ Some push.entry.id = ap (λ (d : desks.Desk). d.doubt) s.state in
        let kept : now.waiting ≡ Some push.entry = waits ∙ ap (λ (o : Option (List ℕ)). kept_where (is_some o) push.entry) doubt in
        inr (record {
          r = r;
          told = let_in.same.content r held;
          taken = w.2.0;
          allowed = let_in.allowed r held;
          held = w.2.1;
          doubt = doubt;
          waits = kept;
          judges = record {
            rows = rows_are r held ∙ ap (λ (d : desks.Desk). ids_of d.log) (sym s.state);
            anchor = anchored r held;
            at = subst (λ (o : Option (List ℕ)). IsAt r' log now.engine now.waiting o) (sym doubt) (record { entry = push.entry; waits = kept; id_is = refl; follows = follows r held });
          };
        })
    taken_gate reply_.Memory waits s = still_step reply_.Memory refl waits s

-- ---- what is known of trees

module _ {R : Type 0} (k : keeper.Ghosts R) (mid new : R) (was now : desks.Desk) (push : Push) (seat : ℕ) (engine : Engine)
    (known : (r : Repository) → k.content mid ≡ Some r → AreKnownIn r engine.known)
    (grown : (r : Repository) → k.content mid ≡ Some r → AreKnownIn (changed (change_of was.log push) r) engine.known) where
  known_same : (reply : Reply) → desks.IsAnswered k mid new was now push reply → (r : Repository) → k.content new ≡ Some r → AreKnownIn r engine.known
  known_same reply s r told = known r (s.same.content r told)

  pub known_after : (reply : Reply) → desks.Steps k mid new was now push seat reply → (r : Repository) → k.content new ≡ Some r → AreKnownIn r engine.known
  known_after (reply_.Done number id) s r told = (let w = s.step r told in subst (λ (x : Repository). AreKnownIn x engine.known) (sym w.2.repository_is) (grown w.0 w.1))
  known_after (reply_.Already number) s r told = known_same (reply_.Already number) s r told
  known_after (reply_.Stale number id) s r told = known_same (reply_.Stale number id) s r told
  known_after (reply_.Malformed at) s r told = absurd s
  known_after (reply_.Incomplete id) s r told = known_same (reply_.Incomplete id) s r told
  known_after (reply_.TooLarge size) s r told = absurd s
  known_after (reply_.Misnumbered number expected) s r told = known_same (reply_.Misnumbered number expected) s r told
  known_after (reply_.Moved found expected) s r told = absurd s
  known_after reply_.Fault (inl s) r told = known_same reply_.Fault s r told
  known_after reply_.Fault (inr s) r told =
      let w = s.held r told in
      elim w.2.1 [
        | inl same ↦ subst (λ (x : Repository). AreKnownIn x engine.known) (sym same) (known w.0 w.1)
        | inr made ↦ subst (λ (x : Repository). AreKnownIn x engine.known) (sym made) (grown w.0 w.1)
      ]
  known_after reply_.Memory s r told = known_same reply_.Memory s r told

-- ---- after the look, by which the log is what it was

pub steps_on : {R : Type 0} (k : keeper.Ghosts R) (old mid new : R) (was ready now : desks.Desk) (push : Push) (seat : ℕ) (reply : Reply) → Undisturbed k old mid → ready ≡ was → desks.Steps k mid new ready now push seat reply → desks.Steps k old new was now push seat reply
steps_on k old mid new was ready now push seat reply same is s = steps_from k old mid new same was now push seat reply (subst (λ (d : desks.Desk). desks.Steps k mid new d now push seat reply) is s)

pub let_through_gate : {R : Type 0} (k : keeper.Ghosts R) (old mid new : R) (was ready now : GateState) (push : Push) (seat : ℕ) (log : List Taken) (let_in : IsLetThrough k old mid new was ready now push seat log) (r' : Repository) → k.content new ≡ Some r' → (reply : Reply)
    → now.waiting ≡ kept_where (is_done reply || is_some now.log.doubt) push.entry → desks.Steps k mid new ready.log now.log push seat reply → IsGateStep k old new was now log r' push seat (Desk reply)
let_through_gate k old mid new was ready now push seat log let_in r' told reply waits s =
    taken_gate k old mid new was ready now push seat log let_in r' told reply waits (subst (λ (d : desks.Desk). desks.Steps k mid new d now.log push seat reply) let_in.log_is s)

pub known_on : {R : Type 0} (k : keeper.Ghosts R) (mid new : R) (was ready now : desks.Desk) (push : Push) (seat : ℕ) (before after : Engine) → ready ≡ was → after ≡ before → ((r : Repository) → k.content mid ≡ Some r → AreKnownIn r before.known)
    → ((r : Repository) → k.content mid ≡ Some r → AreKnownIn (changed (change_of was.log push) r) before.known) → (reply : Reply) → desks.Steps k mid new ready now push seat reply → (r : Repository) → k.content new ≡ Some r → AreKnownIn r after.known
known_on k mid new was ready now push seat before after log_is engine_is known grown reply s r told =
    subst (λ (e : Engine). AreKnownIn r e.known) (sym engine_is) (known_after k mid new was now push seat before known grown reply (subst (λ (d : desks.Desk). desks.Steps k mid new d now push seat reply) log_is s) r told)
