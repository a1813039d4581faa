-- What each command does to the objects outside, and what it comes to over what they hold.
use Rattle.std.specs.Prelude.{ℕ, Bool, List, Result}
use Rattle.keeper_api.specs.Undisturbed.{Undisturbed}
use Rattle.worlds.specs.Counts.{Ended}
use Rattle.worlds.specs.declared.ending.Ending.{Ending}
use Rattle.worlds.specs.Running.{KeepsLeaves, Runs}
use Rattle.worlds.specs.Telling.{Content, TellsEnding}
use Rattle.worlds.specs.Touching.{on_log, on_store}
use Rattle.worlds.specs.Worlds.{Types, Ways, World}
use Rattle.log_appending.specs.Outcomes.{RecordComes, record_ending}
use Rattle.log_appending.specs.Recording.{AnnotateEnds, RecordEnds}
use Rattle.log_appending.specs.declared.telling.RecordFault.{RecordFault}
use Rattle.commands_log.specs.Laws.{LogComes}
use Rattle.commands_log.specs.Logging.{LogEnds, log_ending}
use Rattle.commands_log.specs.declared.faults.LogCommandFault.{LogCommandFault}

module _ {types : Types} (ways : Ways types) where
  -- what an outcome of `log` means
  abbrev pub LogMeans : World types → World types → Result ℕ LogCommandFault → Type 0
  LogMeans before after =
      LogEnds (ways.keeper.content after.keeper) (ways.sink.contents before.sink) (ways.sink.contents after.sink)

  -- it ran to this ending, and the store is as it was
  abbrev pub LogRuns : World types → World types → Ending → Type 0
  LogRuns before after ending =
      Runs ways log_ending (LogMeans before after) on_store before after ending
      × Undisturbed ways.keeper before.keeper after.keeper

  -- what an outcome of `record` means
  abbrev pub RecordMeans : List ℕ → World types → World types → Result (Unit {0}) RecordFault → Type 0
  RecordMeans name before after =
      RecordEnds ways.keeper ways.disk name (ways.clock.left before.clock) (ways.clock.left after.clock)
      before.keeper after.keeper before.disk after.disk (ways.sink.contents before.sink) (ways.sink.contents after.sink)

  -- it ran to this ending, and at every moment no used leaf was lost
  abbrev pub RecordRuns : List ℕ → World types → World types → Ending → Type 0
  RecordRuns name before after ending =
      Runs ways record_ending (RecordMeans name before after) on_log before after ending × KeepsLeaves ways before after

  -- what an outcome of `annotate` means
  abbrev pub AnnotateMeans : List (List ℕ) → Bool → List ℕ → World types → World types
      → Result (Unit {0}) RecordFault → Type 0
  AnnotateMeans ids skip message before after =
      AnnotateEnds ways.keeper ways.disk ids skip message (ways.clock.left before.clock) (ways.clock.left after.clock)
      before.keeper after.keeper before.disk after.disk (ways.sink.contents before.sink) (ways.sink.contents after.sink)

  -- it ran to this ending, and at every moment no used leaf was lost
  abbrev pub AnnotateRuns : List (List ℕ) → Bool → List ℕ → World types → World types → Ending → Type 0
  AnnotateRuns ids skip message before after ending =
      Runs ways record_ending (AnnotateMeans ids skip message before after) on_log before after ending
      × KeepsLeaves ways before after

-- what `log` comes to
abbrev pub LogAnswers : Content → Ending → Type 0
LogAnswers content = Ended log_ending (LogComes content.held)

-- what `record` comes to, and `annotate`
abbrev pub RecordAnswers : Content → Ending → Type 0
RecordAnswers content = Ended record_ending (RecordComes content.file content.held)

-- where the touched objects tell, what ended is what the command comes to, or it stopped
pub record TellsOfWorld {types : Types} (ways : Ways types) : Type 0 where
  pub log : TellsEnding ways on_store (LogRuns ways) LogAnswers
  pub recorded : (name : List ℕ) → TellsEnding ways on_log (RecordRuns ways name) RecordAnswers
  pub annotated : (ids : List (List ℕ)) (skip : Bool) (message : List ℕ)
      → TellsEnding ways on_log (AnnotateRuns ways ids skip message) RecordAnswers
