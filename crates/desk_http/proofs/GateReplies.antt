-- Each reply of a desk with a gate says why the bytes are no push, or is the gate's relation.
use Rattle.std.proofs.Common.{◌≡◌, ◌∙◌, ◌⊎◌, inl, inr, ℕ, List, Some, ap, subst}
use Rattle.git_object.specs.Repository.{Repository}
use Rattle.keeper_api.specs.declared.keepers.Keeper as keeper
use Rattle.pushes.specs.Pushes.{IsPushText}
use Rattle.pushes.specs.declared.pushed.Push.{Push}
use Rattle.desk_turns.specs.Seats.{Sitting}
use Rattle.desk_turns.specs.Calls as calls
use Rattle.desk_http.specs.declared.serving_desks.Pushed.{Pushed}
use Rattle.desk_core.specs.States.{is_gate_fault}
use Rattle.desk_core.specs.declared.gate_replies.GateReply.{GateReply}
use Rattle.desk_core.specs.declared.gate_replies.GateReply.TheVariants.{Denied, Desk}
use Rattle.desk_shops.specs.GateCalls.{gate_done}
use Rattle.desk_shops.specs.Steps.{IsToldAnswer, PushIsGateStep, answers_in, stands_in, told_in}
use Rattle.desk_http.specs.Gates.{EachGateReplyIsStep, IsGateStepped, IsToldPushed, told_of}
use Rattle.desk_http.specs.Steps.{IsNoPush}
use Rattle.desk_http.proofs.Steps.{settled}

told_answer : (answer : GateReply) → IsToldPushed (told_of answer) → IsToldAnswer answer
told_answer (Desk reply) told = told
told_answer (Denied number line) told = told

module _ {R : Type 0} (k : keeper.Ghosts R) (law : PushIsGateStep k) (tells : (store : R) → (r : Repository) × (k.content store ≡ Some r)) where
  unasked : (answer : GateReply) (old new : Sitting) → calls.IsUnasked (stands_in k) (told_in k) (answers_in k) gate_done is_gate_fault Desk answer old new → IsToldAnswer answer → ⊥
  unasked answer old new is told = settled (stands_in k) (told_in k) (λ shop. tells shop.1) is.reply old new is.why (subst IsToldAnswer is.answer_is told)

  stepped : (body : List ℕ) (push : Push) (answer : GateReply) (said : Pushed) (old new : Sitting) → IsPushText push body → said ≡ told_of answer
      → calls.AnswersPush (stands_in k) (told_in k) (answers_in k) gate_done is_gate_fault Desk push answer old new → IsToldAnswer answer → IsGateStepped k body said old new
  stepped body push answer said old new text said_is (inl is) told = absurd (unasked answer old new is told)
  stepped body push answer said old new text said_is (inr is) told = record {
    push = push;
    text = text;
    answer = answer;
    said_is = said_is;
    before = is.before;
    since = is.since;
    step = law tells push answer old new is told;
  }

  replied : (body : List ℕ) (answer : GateReply) (said : Pushed) (old new : Sitting) → said ≡ told_of answer → calls.Pushes (stands_in k) (told_in k) (answers_in k) gate_done is_gate_fault Desk body answer old new
      → IsToldAnswer answer → IsNoPush body said old new ⊎ IsGateStepped k body said old new
  replied body answer said old new said_is (inl is) told = inl (record { fault = is.fault; refused = is.refused; pushed_is = said_is ∙ ap told_of is.answer_is; same = is.same })
  replied body answer said old new said_is (inr is) told = inr (stepped body is.push answer said old new is.text said_is is.answered told)

pub each_gate_reply : {R : Type 0} (k : keeper.Ghosts R) → PushIsGateStep k → EachGateReplyIsStep k
each_gate_reply k law tells body said old new is told =
    replied k law tells body is.answer said old new is.pushed_is is.given (told_answer is.answer (subst IsToldPushed is.pushed_is told))
