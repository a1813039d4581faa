-- What each outcome of `export` means.
use Rattle.std.specs.Prelude.{ℕ, List, Option, Result, Ok, Err}
use Rattle.git_object.specs.Repository.{Repository}
use Rattle.clone_stream.specs.Exporting.{Exports, RefusesExport}
use Rattle.clone_stream.specs.declared.export_faults.ExportFault.{ExportFault}
use Rattle.clone_stream.specs.declared.export_faults.ExportFault.TheVariants.{Damaged, TooLarge, KeeperFailed}
use Rattle.clone_stream.specs.declared.export_faults.ExportFault.TheVariants.{SinkFailed, Memory}
use Rattle.worlds.specs.declared.ending.Ending.{Ending}
use Rattle.worlds.specs.declared.ending.Ending.TheVariants.{Done, Refused}
use Rattle.worlds.specs.declared.ending.Part.TheVariants as part
use Rattle.worlds.specs.declared.ending.Refusal.TheVariants as refusal

-- how the program ends
abbrev pub export_ending : Result (Unit {0}) ExportFault → Ending
export_ending (Ok done) = Done
export_ending (Err (Damaged id)) = Refused (refusal.Object id)
export_ending (Err (TooLarge limit)) = Refused refusal.TooLarge
export_ending (Err KeeperFailed) = Refused (refusal.Fault part.Keeper)
export_ending (Err SinkFailed) = Refused (refusal.Fault part.Sink)
export_ending (Err Memory) = Refused refusal.Memory

-- the whole stream of what is held was printed, or this is why not, and a front of it was
abbrev pub ExportEnds : Option Repository → Option (List ℕ) → Option (List ℕ) → Result (Unit {0}) ExportFault → Type 0
ExportEnds held printed printed_now (Ok done) = Exports held printed printed_now
ExportEnds held printed printed_now (Err fault) = RefusesExport held printed printed_now fault
