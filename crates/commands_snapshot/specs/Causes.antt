-- Which refusals of `snapshot` are a fault of the source, of the store, of the clock.
use Rattle.std.specs.Prelude.{Bool, false}
use Rattle.commands_snapshot.specs.Making as making
use Rattle.commands_snapshot.specs.Storing as storing
use Rattle.commands_snapshot.specs.declared.snapshots.SnapshotFault.{SnapshotFault}
use Rattle.commands_snapshot.specs.declared.snapshots.SnapshotFault.TheVariants.{Untaken, Unstored, SinkFailed}

abbrev pub source_failed : SnapshotFault → Bool
source_failed (Untaken fault) = making.source_failed fault
source_failed (Unstored fault) = false
source_failed SinkFailed = false

abbrev pub keeper_failed : SnapshotFault → Bool
keeper_failed (Untaken fault) = false
keeper_failed (Unstored fault) = storing.keeper_failed fault
keeper_failed SinkFailed = false

abbrev pub clock_failed : SnapshotFault → Bool
clock_failed (Untaken fault) = false
clock_failed (Unstored fault) = storing.clock_failed fault
clock_failed SinkFailed = false
