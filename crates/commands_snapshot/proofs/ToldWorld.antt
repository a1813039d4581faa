-- What an ending means where the objects that the command touches tell what they hold.
use Rattle.std.proofs.Common.{ℕ, List, subst}
use Rattle.std.specs.Prelude.{Option, Result}
use Rattle.worlds.proofs.Lifted.{told_ending}
use Rattle.worlds.specs.Telling.{TellsEnding}
use Rattle.worlds.specs.Touching.{on_listing}
use Rattle.worlds.specs.Worlds.{Types, Ways}
use Rattle.commands_snapshot.specs.Contents.{SnapshotComes}
use Rattle.commands_snapshot.specs.OutcomeLaws.{TellsOfTrees}
use Rattle.commands_snapshot.specs.Runs.{SnapshotAnswers, SnapshotMeans, SnapshotRuns, TellsOfWorld}
use Rattle.commands_snapshot.specs.Snapshots.{SnapshotEnds, snapshot_ending}
use Rattle.commands_snapshot.specs.declared.snapshots.SnapshotFault.{SnapshotFault}

module _ {types : Types} (ways : Ways types) where
  snapped : TellsOfTrees ways.keeper → (name : List ℕ) → TellsEnding ways on_listing (SnapshotRuns ways name) (SnapshotAnswers name)
  snapped law name before after content ending tells runs =
      told_ending snapshot_ending (SnapshotMeans ways name before after) (SnapshotComes name content.bytes content.held)
      (λ (outcome : Result (Unit {0}) SnapshotFault) means.
      law.snapshot name (ways.source.left after.source) content.bytes (ways.clock.left before.clock) (ways.clock.left after.clock)
      content.held tells.store.now before.keeper after.keeper (ways.sink.contents before.sink) (ways.sink.contents after.sink) outcome
      tells.store.held tells.store.holds
      (subst (λ (l : Option (List ℕ)). SnapshotEnds ways.keeper name l (ways.source.left after.source) (ways.clock.left before.clock)
      (ways.clock.left after.clock) before.keeper after.keeper (ways.sink.contents before.sink) (ways.sink.contents after.sink) outcome)
      tells.source means))
      ending runs.ended

  pub told : TellsOfTrees ways.keeper → TellsOfWorld ways
  told law = record { snapshot = snapped law }
