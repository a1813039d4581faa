-- What each command does to the objects outside, and what it comes to over what they hold.
use Rattle.std.specs.Prelude.{ℕ, List, Result}
use Rattle.keeper_api.specs.Undisturbed.{Undisturbed}
use Rattle.ref_patterns.specs.declared.space.Space.{Space}
use Rattle.worlds.specs.Counts.{Ended}
use Rattle.worlds.specs.declared.ending.Ending.{Ending}
use Rattle.worlds.specs.Running.{KeepsLeaves, Runs}
use Rattle.worlds.specs.Telling.{Content, TellsEnding}
use Rattle.worlds.specs.Touching.{on_log, on_store}
use Rattle.worlds.specs.Worlds.{Types, Ways, World}
use Rattle.commands_log.specs.declared.faults.LogCommandFault.{LogCommandFault}
use Rattle.commands_policy.specs.Applying.{ApplyEnds}
use Rattle.commands_policy.specs.Explaining.{ExplainEnds, explain_ending}
use Rattle.commands_policy.specs.Outcomes.{ApplyComes, ExplainComes, apply_ending}
use Rattle.commands_policy.specs.declared.applying.ApplyFault.{ApplyFault}

module _ {types : Types} (ways : Ways types) where
  -- what an outcome of `policy-apply` means
  abbrev pub ApplyMeans : World types → World types → Result (Unit {0}) ApplyFault → Type 0
  ApplyMeans before after =
      ApplyEnds ways.keeper ways.disk (ways.clock.left before.clock) (ways.clock.left after.clock)
      before.keeper after.keeper before.disk after.disk (ways.sink.contents before.sink) (ways.sink.contents after.sink)

  -- it ran to this ending, and at every moment no used leaf was lost
  abbrev pub ApplyRuns : World types → World types → Ending → Type 0
  ApplyRuns before after ending =
      Runs ways apply_ending (ApplyMeans before after) on_log before after ending × KeepsLeaves ways before after

  -- what an outcome of `explain` means
  abbrev pub ExplainMeans : Space → List ℕ → World types → World types → Result (Unit {0}) LogCommandFault → Type 0
  ExplainMeans space text before after =
      ExplainEnds (ways.keeper.content after.keeper) (ways.sink.contents before.sink) (ways.sink.contents after.sink)
      (record { space = space; text = text })

  -- it ran to this ending, and the store is as it was
  abbrev pub ExplainRuns : Space → List ℕ → World types → World types → Ending → Type 0
  ExplainRuns space text before after ending =
      Runs ways explain_ending (ExplainMeans space text before after) on_store before after ending
      × Undisturbed ways.keeper before.keeper after.keeper

-- what `policy-apply` comes to
abbrev pub ApplyAnswers : Content → Ending → Type 0
ApplyAnswers content = Ended apply_ending (ApplyComes content.file content.held)

-- what `explain` comes to
abbrev pub ExplainAnswers : Content → Ending → Type 0
ExplainAnswers content = Ended explain_ending (ExplainComes content.held)

-- where the touched objects tell, what ended is what the command comes to, or it stopped
pub record TellsOfWorld {types : Types} (ways : Ways types) : Type 0 where
  pub applied : TellsEnding ways on_log (ApplyRuns ways) ApplyAnswers
  pub explained : (space : Space) (text : List ℕ)
      → TellsEnding ways on_store (ExplainRuns ways space text) ExplainAnswers
