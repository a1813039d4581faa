-- What the replies of a desk with a gate to pushes come to.
use Rattle.std.specs.Prelude.{◌≡◌, ◌⊎◌, ℕ, List, Some}
use Rattle.git_object.specs.Repository.{Repository}
use Rattle.keeper_api.specs.declared.keepers.Keeper as keeper
use Rattle.pushes.specs.Pushes.{IsPushText}
use Rattle.pushes.specs.declared.pushed.Push.{Push}
use Rattle.desk_turns.specs.Histories.{Begins, History}
use Rattle.desk_turns.specs.Seats.{Sitting}
use Rattle.desk_turns.specs.Laws.{IsToldReply}
use Rattle.desk_turns.specs.Legal.{IsLegal}
use Rattle.desk_http.specs.declared.serving_desks.Pushed.{Pushed}
use Rattle.desk_http.specs.declared.serving_desks.Pushed.TheVariants as pushed
use Rattle.desk_core.specs.States.{is_gate_fault}
use Rattle.desk_core.specs.declared.gate_replies.GateReply.{GateReply}
use Rattle.desk_core.specs.declared.gate_replies.GateReply.TheVariants.{Denied, Desk}
use Rattle.desk_shops.specs.GateCalls.{gate_done}
use Rattle.desk_shops.specs.Steps.{IsGateStepOf, answers_in, stands_in, told_in}
use Rattle.desk_http.specs.Answers.{AnswersPush}
use Rattle.desk_http.specs.Steps.{IsNoPush}

-- what is told of a gate's answer
abbrev pub told_of : GateReply → Pushed
told_of (Desk reply) = pushed.Replied reply
told_of (Denied number line) = pushed.Denied line

-- this says neither that the store failed nor that memory is wanting
abbrev pub IsToldPushed : Pushed → Type 0
IsToldPushed (pushed.Replied reply) = IsToldReply reply
IsToldPushed (pushed.Denied line) = Unit {0}

module _ {R : Type 0} (k : keeper.Ghosts R) where
  -- what a desk with a gate answers of these bytes
  abbrev pub GatePushes : List ℕ → Pushed → Sitting → Sitting → Type 0
  GatePushes = AnswersPush IsLegal (stands_in k) (told_in k) (answers_in k) gate_done is_gate_fault Desk told_of

  -- The bytes spell a push, and what is told of it is the gate's answer to it, between ledgers of a history that goes
  -- on from what the seat had seen, and of what the seat has seen then.
  pub record IsGateStepped (body : List ℕ) (said : Pushed) (old new : Sitting) : Type 0 where
    pub push : Push
    pub text : IsPushText push body
    pub answer : GateReply
    pub said_is : said ≡ told_of answer
    pub before : History
    pub since : Begins old.seen before
    pub step : IsGateStepOf before push old.number answer new.seen

  -- over stores that always tell what they hold, each reply to a push, but for a fault and want of memory, says why the
  -- bytes are no push, or is the gate's relation
  abbrev pub EachGateReplyIsStep : Type 0
  EachGateReplyIsStep =
      ((store : R) → (r : Repository) × (k.content store ≡ Some r))
      → (body : List ℕ) (said : Pushed) (old new : Sitting) → GatePushes body said old new → IsToldPushed said
      → IsNoPush body said old new ⊎ IsGateStepped body said old new
