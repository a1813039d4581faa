-- A gate's shop as what a desk asks, and what the answers to pushes come to.
use Rattle.std.specs.Prelude.{◌≡◌, ℕ, Option, Some}
use Rattle.git_object.specs.Repository.{Repository}
use Rattle.keeper_api.specs.declared.keepers.Keeper as keeper
use Rattle.pushes.specs.declared.pushed.Push.{Push}
use Rattle.desk_turns.specs.Histories.{History}
use Rattle.desk_turns.specs.Seats.{Sitting}
use Rattle.desk_turns.specs.Laws.{IsToldReply}
use Rattle.desk_turns.specs.Calls.{IsAnswered}
use Rattle.desk_core.specs.GateSteps.{GateStep, Ledger}
use Rattle.desk_core.specs.States.{is_gate_fault}
use Rattle.desk_core.specs.declared.gate_replies.GateReply.{GateReply}
use Rattle.desk_core.specs.declared.gate_replies.GateReply.TheVariants.{Denied, Desk}
use Rattle.desk_core.specs.declared.gate_state.GateState.{GateState}
use Rattle.desk_shops.specs.GateCalls.{GateAnswers, gate_done}
use Rattle.desk_shops.specs.GateStanding.{IsGated, Stands}

-- an answer that is neither a fault nor want of memory
abbrev pub IsToldAnswer : GateReply → Type 0
IsToldAnswer (Desk reply) = IsToldReply reply
IsToldAnswer (Denied number line) = Unit {0}

-- a push and its answer are the gate's relation between ledgers of two histories
pub record IsGateStepOf (h : History) (push : Push) (seat : ℕ) (answer : GateReply) (after : History) : Type 0 where
  pub was : Ledger
  pub now : Ledger
  pub was_gated : IsGated h was
  pub now_gated : IsGated after now
  pub step : GateStep was push seat answer now

module _ {R : Type 0} (k : keeper.Ghosts R) where
  abbrev pub stands_in : GateState × R → History → Type 0
  stands_in shop h = Stands k shop.1 shop.0 h

  abbrev pub told_in : GateState × R → Option Repository
  told_in shop = k.content shop.1

  abbrev pub answers_in : GateState × R → History → Push → GateReply → Type 0
  answers_in shop h push answer = GateAnswers k shop.1 shop.0 h push answer

  -- over stores that always tell what they hold, what a desk answers of a push that was read, a fault and want of
  -- memory aside, is the gate's relation between the history that was asked and what the seat has seen then
  abbrev pub PushIsGateStep : Type 0
  PushIsGateStep =
      ((store : R) → (r : Repository) × (k.content store ≡ Some r)) → (push : Push) (answer : GateReply)
      → (old new : Sitting)
      → (is : IsAnswered stands_in told_in answers_in gate_done is_gate_fault Desk push answer old new)
      → IsToldAnswer answer → IsGateStepOf is.before push old.number answer new.seen
