-- What a push leaves of the history for which a gate's shop stands.
use Rattle.std.proofs.Common.{◌≡◌, ◌≢◌, ◌++◌, ◌∷◌, [], ℕ, true, false, List, Some, None, inl, inr, refl, sym, ap, subst, ◌∙◌}
use Rattle.std.specs.Option.{is_some}
use Rattle.std.proofs.lemmas.Bool.{true≢false}
use Rattle.std.proofs.lemmas.List.{map-append}
use Rattle.octets.specs.Causes.{HasCause}
use Rattle.git_object.specs.Repository.{Repository}
use Rattle.keeper_api.specs.Changes.{changed}
use Rattle.keeper_api.specs.declared.keepers.Keeper as keeper
use Rattle.rsl_chain.specs.Entries.{Taken}
use Rattle.pushes.specs.Pushes.{IsSpelled}
use Rattle.pushes.specs.declared.pushed.Push.{Push}
use Rattle.pushes.specs.Steps.{IsTaken, change_of, early}
use Rattle.pushes.specs.declared.replies.Reply.{Reply}
use Rattle.pushes.specs.declared.replies.Reply.TheVariants as reply_
use Rattle.pushes.specs.declared.rows.Row.{Row}
use Rattle.desk_turns.specs.States as desks
use Rattle.desk_turns.specs.Histories.{History, with_member}
use Rattle.desk_turns.specs.Keeping.{HasMore}
use Rattle.desk_turns.specs.Legal.{last, row_of, rows}
use Rattle.desk_turns.specs.Standing.{StandsFor}
use Rattle.desk_turns.proofs.Keeps.{same_stands, step_keeps}
use Rattle.desk_turns.specs.Shops as shops
use Rattle.desk_shops.proofs.Desks.{done_clear}
use Rattle.desk_shops.proofs.Standing.{WasTold, fits_few, same_told, step_told}
use Rattle.desk_core.specs.Adding.{IsAllowed}
use Rattle.desk_core.specs.GateSteps.{GateStep, Ledger, ledger_after, with_push}
use Rattle.desk_core.specs.Runs.{Stepped}
use Rattle.desk_core.specs.States.{GateSteps, IsGateStep, IsStepped, IsStill, Judges, JudgesAt, gate_answered, is_gate_fault, ledger_of}
use Rattle.desk_core.specs.declared.gate_replies.GateReply.{GateReply}
use Rattle.desk_core.specs.declared.gate_replies.GateReply.TheVariants.{Denied, Desk}
use Rattle.desk_core.specs.declared.gate_state.GateState.{GateState}
use Rattle.desk_shops.specs.GateCalls.{AnswersAt, GateAnswers, IsAddedAt, gate_done}
use Rattle.desk_shops.specs.GateStanding.{IsDoubtedAt, IsGated, IsHeldAt, IsJudgedAt, Stands}
use Rattle.desk_shops.specs.Steps.{stands_in}
use Rattle.desk_shops.proofs.Ledgers.{gated_more, judges_at, ledger_is, one_told, repository_is, settled_of}

same_end : {A : Type 0} (xs : List A) (x y : A) → xs ++ x ∷ [] ≡ xs ++ y ∷ [] → x ≡ y
same_end [] x y e = cc
same_end (a ∷ xs) x y e = same_end xs x y cc

-- what is told now was told before
pub was_told : {R : Type 0} (k : keeper.Ghosts R) (old new : R) (was now : desks.Desk) (push : Push) (seat : ℕ) (reply : GateReply) → GateSteps k old new was now push seat reply → WasTold k old new
was_told k old new was now push seat (Desk reply) s = step_told k old new was now push seat reply s
was_told k old new was now push seat (Denied number line) s = same_told k old new s.same

module _ {R : Type 0} (k : keeper.Ghosts R) (old new : R) (was now : GateState) (push : Push) (seat : ℕ) (h : History) (is : Stands k old was h) (clear : was.log.doubt ≡ None) where
  abbrev Tells : GateReply → Type 0
  Tells reply = (r' : Repository) (log : List Taken) → k.content new ≡ Some r' → JudgesAt (k.content old) log was → IsGateStep k old new was now log r' push seat reply

  module _ (r' : Repository) (told : k.content new ≡ Some r') (r : Repository) (held : k.content old ≡ Some r) where
    abbrev before : IsJudgedAt h r was
    before = is.judged r held

    -- the step is one of the ledger
    step_of : (reply : GateReply) (s : IsStepped k old new was now before.ledger.log r' push seat reply) → GateStep before.ledger push seat reply (ledger_of now s.log_now r')
    step_of reply s =
        let same : s.r ≡ r = one_told (k.content old) s.r r s.told held in
        let here : ledger_of was before.ledger.log s.r ≡ before.ledger = ap (λ (x : Repository). ledger_of was before.ledger.log x) same ∙ ledger_is k old was h is r held clear in
        subst (λ (g : Ledger). GateStep g push seat reply (ledger_of now s.log_now r')) here s.step

    answers_of : (reply : GateReply) → IsStepped k old new was now before.ledger.log r' push seat reply → AnswersAt h push reply
    answers_of reply s = record { ledger = before.ledger; gated = before.gated; replies = (step_of reply s).replies }

    -- nothing was added
    stepped_judged : (reply : GateReply) → now.log ≡ was.log → ledger_after before.ledger push seat reply ≡ before.ledger → IsStepped k old new was now before.ledger.log r' push seat reply → IsJudgedAt h r' now
    stepped_judged reply log_is nothing s =
        let same : ledger_of now s.log_now r' ≡ before.ledger = (step_of reply s).after ∙ nothing in
        let now_clear : now.log.doubt ≡ None = ap (λ (d : desks.Desk). d.doubt) log_is ∙ clear in
        record {
          ledger = before.ledger;
          gated = before.gated;
          judges = subst (λ (log : List Taken). Judges r' log now) (ap (λ (g : Ledger). g.log) same) s.judges;
          held = subst (IsHeldAt before.ledger r' now) (sym now_clear) (ap (λ (g : Ledger). g.repository) same);
        }

    still_judged : IsStill k old new was now before.ledger.log r' → IsJudgedAt h r' now
    still_judged s =
        let same : r' ≡ r = one_told (k.content old) r' r s.told held in
        let now_clear : now.log.doubt ≡ None = ap (λ (d : desks.Desk). d.doubt) s.log_is ∙ clear in
        record {
          ledger = before.ledger;
          gated = before.gated;
          judges = s.judges;
          held = subst (IsHeldAt before.ledger r' now) (sym now_clear) (same ∙ repository_is k old was h is r held clear);
        }

  module _ (reply : GateReply) (steps : GateSteps k old new was.log now.log push seat reply) (tells : Tells reply) where
    -- what it was judged by, and what the step is there
    told_by : (r' : Repository) (told : k.content new ≡ Some r') → (r : Repository) × (held : k.content old ≡ Some r) × IsGateStep k old new was now (is.judged r held).ledger.log r' push seat reply
    told_by r' told = (let w = was_told k old new was.log now.log push seat reply steps r' told in (w.0, w.1, tells r' (is.judged w.0 w.1).ledger.log told (judges_at k old was h is w.0 w.1)))

    still : StandsFor k new now.log h → ((r' : Repository) (told : k.content new ≡ Some r') (r : Repository) (held : k.content old ≡ Some r) → IsGateStep k old new was now (is.judged r held).ledger.log r' push seat reply → IsJudgedAt h r' now) → Stands k new now h
    still desk judged = record { desk = desk; judged = λ r' told. (let w = told_by r' told in judged r' told w.0 w.1 w.2) }

    unchanged : now.log ≡ was.log → StandsFor k new now.log h
        → ((r : Repository) (held : k.content old ≡ Some r) → ledger_after (is.judged r held).ledger push seat reply ≡ (is.judged r held).ledger)
        → ((r' : Repository) (r : Repository) (held : k.content old ≡ Some r) → IsGateStep k old new was now (is.judged r held).ledger.log r' push seat reply → IsStepped k old new was now (is.judged r held).ledger.log r' push seat reply) → Stands k new now h
    unchanged log_is desk nothing as_step = still desk (λ r' told r held s. stepped_judged r' told r held reply log_is (nothing r held) (as_step r' r held s))

  -- ---- each reply

  module _ (spelled : IsSpelled push) (not_none : seat ≢ 0) where
    same_cause : (reply : Reply) → HasCause is_gate_fault (k.faults old) (k.faults new) (gate_answered (Desk reply)) → HasCause desks.is_fault (k.faults old) (k.faults new) (desks.answered reply)
    same_cause reply cause = record { later = cause.later; is = cause.is }

    done : (number : ℕ) (id : List ℕ) → desks.Steps k old new was.log now.log push seat (reply_.Done number id) → Tells (Desk (reply_.Done number id)) → HasCause is_gate_fault (k.faults old) (k.faults new) (gate_answered (Desk (reply_.Done number id)))
        → shops.AddsOne (stands_in k) (now, new) h push.entry.id seat
    done number id s tells cause =
        let reply : GateReply = Desk (reply_.Done number id) in
        let more : HasMore k new now.log h push.entry.id seat = step_keeps k old new was.log now.log push seat (reply_.Done number id) h is.desk clear spelled not_none s (same_cause (reply_.Done number id) cause) in
        let now_clear : now.log.doubt ≡ None = ap (λ (d : desks.Desk). d.doubt) s.state in
        let fits : early (rows h) push.entry ≡ None = subst (λ (log : List Row). early log push.entry ≡ None) is.desk.log s.fits in
        record {
          member = more.member;
          id_is = more.id_is;
          seat_is = more.seat_is;
          few = fits_few h push spelled fits;
          is_state = record {
            desk = more.stands;
            judged = λ r' told.
                let w = told_by reply s tells r' told in
                let j = is.judged w.0 w.1 in
                let step = step_of r' told w.0 w.1 reply w.2 in
                let last_is = (settled_of k new now _ more.stands now_clear).held r' told in
                record {
                  ledger = ledger_of now w.2.log_now r';
                  gated = gated_more h more.member j.ledger (ledger_of now w.2.log_now r') (Stepped push seat reply) j.gated step more.stands.log last_is;
                  judges = w.2.judges;
                  held = subst (IsHeldAt (ledger_of now w.2.log_now r') r' now) (sym now_clear) refl;
                };
          };
        }

    doubted : (s : GateSteps k old new was.log now.log push seat (Desk reply_.Fault)) → Tells (Desk reply_.Fault) → StandsFor k new now.log h → Stands k new now h
    doubted s tells desk = still (Desk reply_.Fault) s tells desk (λ r' told r held step. elim step [
      | inl same ↦ still_judged r' told r held same
      | inr doubt ↦
          let j = is.judged r held in
          let same : doubt.r ≡ r = one_told (k.content old) doubt.r r doubt.told held in
          let here : doubt.r ≡ j.ledger.repository = same ∙ repository_is k old was h is r held clear in
          let rows_are : was.log.log ≡ j.ledger.rows = is.desk.log ∙ sym j.gated.rows_are in
          let at : IsDoubtedAt j.ledger r' now push.entry.id = record {
            push = push;
            id_is = refl;
            waits = doubt.waits;
            taken = subst (λ (x : Repository). IsTaken j.ledger.rows x push) here (subst (λ (log : List Row). IsTaken log doubt.r push) rows_are doubt.taken);
            allowed = subst (λ (x : Repository). IsAllowed j.ledger.log j.ledger.rows x push) here (subst (λ (log : List Row). IsAllowed j.ledger.log log doubt.r push) rows_are doubt.allowed);
            one = elim doubt.held [
              | inl as_was ↦ inl (as_was ∙ here)
              | inr made ↦ inr (made ∙ (λ i. changed (change_of (rows_are i) push) (here i)))
            ];
          } in
          record {
            ledger = j.ledger;
            gated = j.gated;
            judges = doubt.judges;
            held = subst (IsHeldAt j.ledger r' now) (sym doubt.doubt) at;
          }
    ])

    pub push_stands : (reply : GateReply) → GateSteps k old new was.log now.log push seat reply → Tells reply → HasCause is_gate_fault (k.faults old) (k.faults new) (gate_answered reply)
        → shops.StandsPushed (stands_in k) (gate_done reply) (now, new) h push.entry.id seat
    push_stands (Desk (reply_.Done number id)) s tells cause = done number id s tells cause
    push_stands (Desk (reply_.Already number)) s tells cause =
        unchanged (Desk (reply_.Already number)) s tells s.state (step_keeps k old new was.log now.log push seat (reply_.Already number) h is.desk clear spelled not_none s (same_cause (reply_.Already number) cause)) (λ r held. refl) (λ r' r held x. x)
    push_stands (Desk (reply_.Stale number id)) s tells cause =
        unchanged (Desk (reply_.Stale number id)) s tells s.state (step_keeps k old new was.log now.log push seat (reply_.Stale number id) h is.desk clear spelled not_none s (same_cause (reply_.Stale number id) cause)) (λ r held. refl) (λ r' r held x. x)
    push_stands (Desk (reply_.Malformed at)) s tells cause = absurd s
    push_stands (Desk (reply_.Incomplete id)) s tells cause =
        unchanged (Desk (reply_.Incomplete id)) s tells s.state (step_keeps k old new was.log now.log push seat (reply_.Incomplete id) h is.desk clear spelled not_none s (same_cause (reply_.Incomplete id) cause)) (λ r held. refl) (λ r' r held x. x)
    push_stands (Desk (reply_.TooLarge size)) s tells cause = absurd s
    push_stands (Desk (reply_.Misnumbered number expected)) s tells cause =
        unchanged (Desk (reply_.Misnumbered number expected)) s tells s.state
        (step_keeps k old new was.log now.log push seat (reply_.Misnumbered number expected) h is.desk clear spelled not_none s (same_cause (reply_.Misnumbered number expected) cause)) (λ r held. refl) (λ r' r held x. x)
    push_stands (Desk (reply_.Moved found expected)) s tells cause = absurd s
    push_stands (Desk reply_.Fault) s tells cause = doubted s tells (step_keeps k old new was.log now.log push seat reply_.Fault h is.desk clear spelled not_none s (same_cause reply_.Fault cause))
    push_stands (Desk reply_.Memory) s tells cause =
        still (Desk reply_.Memory) s tells (step_keeps k old new was.log now.log push seat reply_.Memory h is.desk clear spelled not_none s (same_cause reply_.Memory cause)) (λ r' told r held x. still_judged r' told r held x)
    push_stands (Denied number line) s tells cause =
        unchanged (Denied number line) s tells s.state (same_stands k old new h was.log now.log s.state s.same cause.later (inl cause.is) is.desk) (λ r held. refl) (λ r' r held x. x)

  -- ---- what each answer says

  answers_told : (reply : GateReply) (steps : GateSteps k old new was.log now.log push seat reply) → Tells reply → ((r' r : Repository) (held : k.content old ≡ Some r) → IsGateStep k old new was now (is.judged r held).ledger.log r' push seat reply → IsStepped k old new was now (is.judged r held).ledger.log r' push seat reply)
      → (r' : Repository) → k.content new ≡ Some r' → AnswersAt h push reply
  answers_told reply steps tells as_step r' told = (let w = told_by reply steps tells r' told in answers_of r' told w.0 w.1 reply (as_step r' w.0 w.1 w.2))

  -- whatever member came, its seat is the push's
  added : (number : ℕ) (id : List ℕ) (steps : GateSteps k old new was.log now.log push seat (Desk (reply_.Done number id))) → Tells (Desk (reply_.Done number id))
      → (r' : Repository) → k.content new ≡ Some r' → IsAddedAt k new now h push number id
  unfolding answers_of
  added number id steps tells r' told =
      let reply : GateReply = Desk (reply_.Done number id) in
      let w = told_by reply steps tells r' told in
      let g : Ledger = (is.judged w.0 w.1).ledger in
      let gated : IsGated h g = (is.judged w.0 w.1).gated in
      let step = step_of r' told w.0 w.1 reply w.2 in
      let next : ledger_of now w.2.log_now r' ≡ with_push g push seat = step.after in
      let now_clear : now.log.doubt ≡ None = ap (λ (d : desks.Desk). d.doubt) steps.state in record {
        answered = answers_of r' told w.0 w.1 reply w.2;
        more = λ m stands.
            let rows_are : (with_push g push seat).rows ≡ rows (with_member h m) = ap (λ (x : Ledger). x.rows) (sym next) ∙ stands.desk.log in
            let last_is : last (with_member h m) ≡ Some r' = (settled_of k new now (with_member h m) stands.desk now_clear).held r' told in
            let here : r' ≡ (with_push g push seat).repository = ap (λ (x : Ledger). x.repository) next in
            let rows_here : rows h ++ record { id = push.entry.id; seat = seat } ∷ [] ≡ rows h ++ row_of m ∷ [] = (let back = sym gated.rows_are in λ i. back i ++ record { id = push.entry.id; seat = seat } ∷ []) ∙ rows_are ∙ map-append row_of h.members (m ∷ []) in
            let same : seat ≡ m.seat = ap (λ (row : Row). row.seat) (same_end (rows h) (record { id = push.entry.id; seat = seat }) (row_of m) rows_here) in
            subst (λ (n : ℕ). IsGated (with_member h m) (with_push g push n)) same
            (gated_more h m g (with_push g push seat) (Stepped push seat reply) gated (record { replies = step.replies; after = refl }) rows_are (last_is ∙ ap Some here));
      }

  pub push_answers : (reply : GateReply) → GateSteps k old new was.log now.log push seat reply → Tells reply → GateAnswers k new now h push reply
  push_answers (Desk (reply_.Done number id)) s tells = added number id s tells
  push_answers (Desk (reply_.Already number)) s tells = answers_told (Desk (reply_.Already number)) s tells (λ r' r held x. x)
  push_answers (Desk (reply_.Stale number id)) s tells = answers_told (Desk (reply_.Stale number id)) s tells (λ r' r held x. x)
  push_answers (Desk (reply_.Malformed at)) s tells = s
  push_answers (Desk (reply_.Incomplete id)) s tells = answers_told (Desk (reply_.Incomplete id)) s tells (λ r' r held x. x)
  push_answers (Desk (reply_.TooLarge size)) s tells = s
  push_answers (Desk (reply_.Misnumbered number expected)) s tells = answers_told (Desk (reply_.Misnumbered number expected)) s tells (λ r' r held x. x)
  push_answers (Desk (reply_.Moved found expected)) s tells = s
  push_answers (Desk reply_.Fault) s tells = tt
  push_answers (Desk reply_.Memory) s tells = tt
  push_answers (Denied number line) s tells = answers_told (Denied number line) s tells (λ r' r held x. x)

-- ---- after a push that is done nothing is in doubt

pub done_free : {R : Type 0} (k : keeper.Ghosts R) (old new : R) (was now : desks.Desk) (push : Push) (seat : ℕ) (reply : GateReply) → GateSteps k old new was now push seat reply → gate_done reply ≡ true → is_some now.doubt ≡ false
done_free k old new was now push seat (Desk reply) s done = ap is_some (done_clear k old new was now push seat reply s done)
done_free k old new was now push seat (Denied number line) s done = absurd (true≢false (sym done))
