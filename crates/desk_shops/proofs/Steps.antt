-- Each answer to a push is the gate's relation between ledgers of what a seat has seen.
use Rattle.std.proofs.Common.{◌≡◌, ℕ, Some, refl, sym, subst}
use Rattle.git_object.specs.Repository.{Repository}
use Rattle.keeper_api.specs.declared.keepers.Keeper as keeper
use Rattle.pushes.specs.declared.pushed.Push.{Push}
use Rattle.desk_turns.specs.Histories.{History, with_member}
use Rattle.desk_turns.specs.Seats.{Sitting}
use Rattle.pushes.specs.declared.replies.Reply.TheVariants as reply_
use Rattle.desk_turns.specs.Calls.{IsAnswered}
use Rattle.desk_core.specs.GateSteps.{ledger_after, with_push}
use Rattle.desk_core.specs.States.{is_gate_fault}
use Rattle.desk_core.specs.declared.gate_replies.GateReply.{GateReply}
use Rattle.desk_core.specs.declared.gate_replies.GateReply.TheVariants.{Denied, Desk}
use Rattle.desk_shops.specs.GateCalls.{AnswersAt, gate_done}
use Rattle.desk_shops.specs.GateStanding.{IsGated}
use Rattle.desk_shops.specs.Steps.{IsGateStepOf, IsToldAnswer, PushIsGateStep, answers_in, stands_in, told_in}

-- nothing was added
unmoved : (h after : History) (push : Push) (seat : ℕ) (answer : GateReply) → after ≡ h → (at : AnswersAt h push answer) → ledger_after at.ledger push seat answer ≡ at.ledger
    → IsGateStepOf h push seat answer after
unmoved h after push seat answer same at nothing = record {
  was = at.ledger;
  now = at.ledger;
  was_gated = at.gated;
  now_gated = subst (λ (x : History). IsGated x at.ledger) (sym same) at.gated;
  step = record { replies = at.replies; after = sym nothing };
}

module _ {R : Type 0} (k : keeper.Ghosts R) (tells : (store : R) → (r : Repository) × (k.content store ≡ Some r)) where
  is_step : (push : Push) (answer : GateReply) (old new : Sitting) → (is : IsAnswered (stands_in k) (told_in k) (answers_in k) gate_done is_gate_fault Desk push answer old new) → IsToldAnswer answer
      → IsGateStepOf is.before push old.number answer new.seen
  is_step push (Desk (reply_.Done number id)) old new is told =
      let held = tells is.shop.1 in
      let at = is.says held.0 held.1 in
      let more = is.done.more in
      let gated : IsGated (with_member is.before more.member) (with_push at.answered.ledger push more.member.seat) = at.more more.member (subst (stands_in k is.shop) more.is is.is_state) in record {
        was = at.answered.ledger;
        now = with_push at.answered.ledger push old.number;
        was_gated = at.answered.gated;
        now_gated = subst (λ (x : History). IsGated x (with_push at.answered.ledger push old.number)) (sym more.is)
            (subst (λ (n : ℕ). IsGated (with_member is.before more.member) (with_push at.answered.ledger push n)) more.seat_is gated);
        step = record { replies = at.answered.replies; after = refl };
      }
  is_step push (Desk (reply_.Already number)) old new is told = (let held = tells is.shop.1 in unmoved is.before new.seen push old.number (Desk (reply_.Already number)) is.done.same (is.says held.0 held.1) refl)
  is_step push (Desk (reply_.Stale number id)) old new is told = (let held = tells is.shop.1 in unmoved is.before new.seen push old.number (Desk (reply_.Stale number id)) is.done.same (is.says held.0 held.1) refl)
  is_step push (Desk (reply_.Malformed at)) old new is told = absurd is.says
  is_step push (Desk (reply_.Incomplete id)) old new is told = (let held = tells is.shop.1 in unmoved is.before new.seen push old.number (Desk (reply_.Incomplete id)) is.done.same (is.says held.0 held.1) refl)
  is_step push (Desk (reply_.TooLarge size)) old new is told = absurd is.says
  is_step push (Desk (reply_.Misnumbered number expected)) old new is told =
      (let held = tells is.shop.1 in unmoved is.before new.seen push old.number (Desk (reply_.Misnumbered number expected)) is.done.same (is.says held.0 held.1) refl)
  is_step push (Desk (reply_.Moved found expected)) old new is told = absurd is.says
  is_step push (Desk reply_.Fault) old new is told = absurd told
  is_step push (Desk reply_.Memory) old new is told = absurd told
  is_step push (Denied number line) old new is told = (let held = tells is.shop.1 in unmoved is.before new.seen push old.number (Denied number line) is.done.same (is.says held.0 held.1) refl)

pub push_is_gate_step : {R : Type 0} (k : keeper.Ghosts R) → PushIsGateStep k
push_is_gate_step k tells = is_step k tells
