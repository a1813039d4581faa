-- What each command does to the objects outside, and what it comes to over what they hold.
use Rattle.std.specs.Prelude.{Result}
use Rattle.keeper_api.specs.Undisturbed.{Undisturbed}
use Rattle.clone_stream.specs.declared.export_faults.ExportFault.{ExportFault}
use Rattle.worlds.specs.Counts.{Ended}
use Rattle.worlds.specs.declared.ending.Ending.{Ending}
use Rattle.worlds.specs.Running.{Runs}
use Rattle.worlds.specs.Telling.{Content, TellsEnding}
use Rattle.worlds.specs.Touching.{on_store, on_stream}
use Rattle.worlds.specs.Worlds.{Types, Ways, World}
use Rattle.commands_stream.specs.Contents.{ExportComes, ImportComes}
use Rattle.commands_stream.specs.Exporting.{ExportEnds, export_ending}
use Rattle.commands_stream.specs.Importing.{ImportEnds, import_ending}
use Rattle.commands_stream.specs.declared.importing.ImportFault.{ImportFault}

module _ {types : Types} (ways : Ways types) where
  -- what an outcome of `import` means
  abbrev pub ImportMeans : World types → World types → Result (Unit {0}) ImportFault → Type 0
  ImportMeans before after =
      ImportEnds ways.keeper (ways.source.left before.source) (ways.source.left after.source) before.keeper after.keeper
      (ways.sink.contents before.sink) (ways.sink.contents after.sink)

  -- it ran to this ending
  abbrev pub ImportRuns : World types → World types → Ending → Type 0
  ImportRuns before after ending = Runs ways import_ending (ImportMeans before after) on_stream before after ending

  -- what an outcome of `export` means
  abbrev pub ExportMeans : World types → World types → Result (Unit {0}) ExportFault → Type 0
  ExportMeans before after =
      ExportEnds (ways.keeper.content after.keeper) (ways.sink.contents before.sink) (ways.sink.contents after.sink)

  -- it ran to this ending, and the store is as it was
  abbrev pub ExportRuns : World types → World types → Ending → Type 0
  ExportRuns before after ending =
      Runs ways export_ending (ExportMeans before after) on_store before after ending
      × Undisturbed ways.keeper before.keeper after.keeper

-- what `import` comes to
abbrev pub ImportAnswers : Content → Ending → Type 0
ImportAnswers content = Ended import_ending (ImportComes content.held content.bytes)

-- what `export` comes to
abbrev pub ExportAnswers : Content → Ending → Type 0
ExportAnswers content = Ended export_ending (ExportComes content.held)

-- where the touched objects tell, what ended is what the command comes to, or it stopped
pub record TellsOfWorld {types : Types} (ways : Ways types) : Type 0 where
  pub import : TellsEnding ways on_stream (ImportRuns ways) ImportAnswers
  pub export : TellsEnding ways on_store (ExportRuns ways) ExportAnswers
