-- The laws of these commands: one outcome at most, and what is told is that one.
use Rattle.std.specs.Prelude.{◌≡◌, ◌⊎◌, ℕ, List, Option, Some, Result}
use Rattle.git_object.specs.Repository.{Repository}
use Rattle.keeper_api.specs.declared.keepers.Keeper as keeper
use Rattle.clone_stream.specs.declared.export_faults.ExportFault.{ExportFault}
use Rattle.worlds.specs.Endings.{IsStopped}
use Rattle.commands_stream.specs.Contents.{ExportComes, ImportComes}
use Rattle.commands_stream.specs.Exporting.{ExportEnds, export_ending}
use Rattle.commands_stream.specs.Importing.{ImportEnds, import_ending}
use Rattle.commands_stream.specs.declared.importing.ImportFault.{ImportFault}

-- each comes to one outcome at most
pub record OneOfStream : Type 0 where
  pub import : (was : Repository) (bytes : List ℕ) (a b : Result (Unit {0}) ImportFault)
      → ImportComes was bytes a → ImportComes was bytes b → a ≡ b
  pub export : (was : Repository) (a b : Result (Unit {0}) ExportFault) → ExportComes was a → ExportComes was b → a ≡ b

-- what ended is what the command comes to, or it stopped
pub record TellsOfStream {R : Type 0} (keeper_of : keeper.Ghosts R) : Type 0 where
  pub import : (bytes : List ℕ) (left_now : Option (List ℕ)) (was now : Repository) (old new : R)
      (printed printed_now : Option (List ℕ)) (outcome : Result (Unit {0}) ImportFault)
      → keeper_of.content old ≡ Some was → keeper_of.content new ≡ Some now
      → ImportEnds keeper_of (Some bytes) left_now old new printed printed_now outcome → ImportComes was bytes outcome
      ⊎ IsStopped (import_ending outcome)
  pub export : (was : Repository) (printed printed_now : Option (List ℕ)) (outcome : Result (Unit {0}) ExportFault)
      → ExportEnds (Some was) printed printed_now outcome → ExportComes was outcome ⊎ IsStopped (export_ending outcome)
