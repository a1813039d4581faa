-- What `approve` does to the objects outside, and what it comes to over what they hold.
use Rattle.std.specs.Prelude.{ℕ, List, Result}
use Rattle.worlds.specs.Counts.{Ended}
use Rattle.worlds.specs.declared.ending.Ending.{Ending}
use Rattle.worlds.specs.Running.{KeepsLeaves, Runs}
use Rattle.worlds.specs.Telling.{Content, TellsEnding}
use Rattle.worlds.specs.Touching.{on_log}
use Rattle.worlds.specs.Worlds.{Types, Ways, World}
use Rattle.commands_approve.specs.Approving.{ApproveEnds}
use Rattle.commands_approve.specs.Outcomes.{ApproveComes, approve_ending}
use Rattle.commands_approve.specs.declared.approving.ApproveFault.{ApproveFault}

module _ {types : Types} (ways : Ways types) (name target : List ℕ) where
  -- what an outcome means
  abbrev pub ApproveMeans : World types → World types → Result (Unit {0}) ApproveFault → Type 0
  ApproveMeans before after =
      ApproveEnds ways.keeper ways.disk name target (ways.clock.left before.clock) (ways.clock.left after.clock)
      before.keeper after.keeper before.disk after.disk (ways.sink.contents before.sink) (ways.sink.contents after.sink)

  -- it ran to this ending, and at every moment no used leaf was lost
  abbrev pub ApproveRuns : World types → World types → Ending → Type 0
  ApproveRuns before after ending =
      Runs ways approve_ending (ApproveMeans before after) on_log before after ending × KeepsLeaves ways before after

-- what it comes to
abbrev pub ApproveAnswers : List ℕ → List ℕ → Content → Ending → Type 0
ApproveAnswers name target content = Ended approve_ending (ApproveComes name target content.file content.held)

-- where the touched objects tell, what ended is what it comes to, or it stopped
pub record TellsOfWorld {types : Types} (ways : Ways types) : Type 0 where
  pub approved : (name target : List ℕ)
      → TellsEnding ways on_log (ApproveRuns ways name target) (ApproveAnswers name target)
