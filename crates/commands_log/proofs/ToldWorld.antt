-- What an ending means where the objects that a command touches tell what they hold.
use Rattle.std.proofs.Common.{ℕ, Bool, List, subst}
use Rattle.std.specs.Prelude.{Option, Result}
use Rattle.git_object.specs.Repository.{Repository}
use Rattle.worlds.proofs.Lifted.{told_ending}
use Rattle.worlds.proofs.StillHeld.{still_held}
use Rattle.worlds.specs.Telling.{TellsEnding}
use Rattle.worlds.specs.Touching.{on_log, on_store}
use Rattle.worlds.specs.Worlds.{Types, Ways}
use Rattle.log_appending.specs.Outcomes.{RecordComes, TellsOfLog, record_ending}
use Rattle.log_appending.specs.declared.telling.RecordFault.{RecordFault}
use Rattle.commands_log.specs.Laws.{LogComes, TellsOfHistory}
use Rattle.commands_log.specs.Logging.{LogEnds, log_ending}
use Rattle.commands_log.specs.Runs.{AnnotateMeans, AnnotateRuns, LogAnswers, LogMeans, LogRuns, RecordAnswers, RecordMeans, RecordRuns, TellsOfWorld}
use Rattle.commands_log.specs.declared.faults.LogCommandFault.{LogCommandFault}

module _ {types : Types} (ways : Ways types) where
  logged : TellsOfHistory → TellsEnding ways on_store (LogRuns ways) LogAnswers
  logged law before after content ending tells runs =
      let held = still_held ways before after content tells.store runs.1 in
      told_ending log_ending (LogMeans ways before after) (LogComes content.held)
      (λ (outcome : Result ℕ LogCommandFault) means.
      law content.held (ways.sink.contents before.sink) (ways.sink.contents after.sink) outcome
      (subst (λ (o : Option Repository). LogEnds o (ways.sink.contents before.sink) (ways.sink.contents after.sink) outcome) held means))
      ending runs.0.ended

  recorded : TellsOfLog ways.keeper ways.disk → (name : List ℕ) → TellsEnding ways on_log (RecordRuns ways name) RecordAnswers
  recorded law name before after content ending tells runs =
      told_ending record_ending (RecordMeans ways name before after) (RecordComes content.file content.held)
      (λ (outcome : Result (Unit {0}) RecordFault) means.
      law.recorded name (ways.clock.left before.clock) (ways.clock.left after.clock) content.held tells.store.now content.file tells.disk.now
      before.keeper after.keeper before.disk after.disk (ways.sink.contents before.sink) (ways.sink.contents after.sink) outcome
      tells.store.held tells.store.holds tells.disk.held tells.disk.holds means)
      ending runs.0.ended

  annotated : TellsOfLog ways.keeper ways.disk → (ids : List (List ℕ)) (skip : Bool) (message : List ℕ)
      → TellsEnding ways on_log (AnnotateRuns ways ids skip message) RecordAnswers
  annotated law ids skip message before after content ending tells runs =
      told_ending record_ending (AnnotateMeans ways ids skip message before after) (RecordComes content.file content.held)
      (λ (outcome : Result (Unit {0}) RecordFault) means.
      law.annotated ids skip message (ways.clock.left before.clock) (ways.clock.left after.clock) content.held tells.store.now content.file tells.disk.now
      before.keeper after.keeper before.disk after.disk (ways.sink.contents before.sink) (ways.sink.contents after.sink) outcome
      tells.store.held tells.store.holds tells.disk.held tells.disk.holds means)
      ending runs.0.ended

  pub told : TellsOfHistory → TellsOfLog ways.keeper ways.disk → TellsOfWorld ways
  told history log = record { log = logged history; recorded = recorded log; annotated = annotated log }
