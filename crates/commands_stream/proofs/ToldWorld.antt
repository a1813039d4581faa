-- What an ending means where the objects that a command touches tell what they hold.
use Rattle.std.proofs.Common.{ℕ, List, subst}
use Rattle.std.specs.Prelude.{Option, Result}
use Rattle.git_object.specs.Repository.{Repository}
use Rattle.clone_stream.specs.declared.export_faults.ExportFault.{ExportFault}
use Rattle.worlds.proofs.Lifted.{told_ending}
use Rattle.worlds.proofs.StillHeld.{still_held}
use Rattle.worlds.specs.Telling.{TellsEnding}
use Rattle.worlds.specs.Touching.{on_store, on_stream}
use Rattle.worlds.specs.Worlds.{Types, Ways}
use Rattle.commands_stream.specs.Contents.{ExportComes, ImportComes}
use Rattle.commands_stream.specs.Exporting.{ExportEnds, export_ending}
use Rattle.commands_stream.specs.Importing.{ImportEnds, import_ending}
use Rattle.commands_stream.specs.Laws.{TellsOfStream}
use Rattle.commands_stream.specs.Runs.{ExportAnswers, ExportMeans, ExportRuns, ImportAnswers, ImportMeans, ImportRuns, TellsOfWorld}
use Rattle.commands_stream.specs.declared.importing.ImportFault.{ImportFault}

module _ {types : Types} (ways : Ways types) where
  imported : TellsOfStream ways.keeper → TellsEnding ways on_stream (ImportRuns ways) ImportAnswers
  imported law before after content ending tells runs =
      told_ending import_ending (ImportMeans ways before after) (ImportComes content.held content.bytes)
      (λ (outcome : Result (Unit {0}) ImportFault) means.
      law.import content.bytes (ways.source.left after.source) content.held tells.store.now before.keeper after.keeper
      (ways.sink.contents before.sink) (ways.sink.contents after.sink) outcome tells.store.held tells.store.holds
      (subst (λ (l : Option (List ℕ)). ImportEnds ways.keeper l (ways.source.left after.source) before.keeper after.keeper
      (ways.sink.contents before.sink) (ways.sink.contents after.sink) outcome) tells.source means))
      ending runs.ended

  exported : TellsOfStream ways.keeper → TellsEnding ways on_store (ExportRuns ways) ExportAnswers
  exported law before after content ending tells runs =
      let held = still_held ways before after content tells.store runs.1 in
      told_ending export_ending (ExportMeans ways before after) (ExportComes content.held)
      (λ (outcome : Result (Unit {0}) ExportFault) means.
      law.export content.held (ways.sink.contents before.sink) (ways.sink.contents after.sink) outcome
      (subst (λ (o : Option Repository). ExportEnds o (ways.sink.contents before.sink) (ways.sink.contents after.sink) outcome) held means))
      ending runs.0.ended

  pub told : TellsOfStream ways.keeper → TellsOfWorld ways
  told law = record { import = imported law; export = exported law }
