-- What `snapshot` does to the objects outside, and what it comes to over what they hold.
use Rattle.std.specs.Prelude.{ℕ, List, Result}
use Rattle.worlds.specs.Counts.{Ended}
use Rattle.worlds.specs.declared.ending.Ending.{Ending}
use Rattle.worlds.specs.Running.{Runs}
use Rattle.worlds.specs.Telling.{Content, TellsEnding}
use Rattle.worlds.specs.Touching.{on_listing}
use Rattle.worlds.specs.Worlds.{Types, Ways, World}
use Rattle.commands_snapshot.specs.Contents.{SnapshotComes}
use Rattle.commands_snapshot.specs.Snapshots.{SnapshotEnds, snapshot_ending}
use Rattle.commands_snapshot.specs.declared.snapshots.SnapshotFault.{SnapshotFault}

module _ {types : Types} (ways : Ways types) (name : List ℕ) where
  -- what an outcome means
  abbrev pub SnapshotMeans : World types → World types → Result (Unit {0}) SnapshotFault → Type 0
  SnapshotMeans before after =
      SnapshotEnds ways.keeper name (ways.source.left before.source) (ways.source.left after.source)
      (ways.clock.left before.clock) (ways.clock.left after.clock) before.keeper after.keeper
      (ways.sink.contents before.sink) (ways.sink.contents after.sink)

  -- it ran to this ending
  abbrev pub SnapshotRuns : World types → World types → Ending → Type 0
  SnapshotRuns before after ending =
      Runs ways snapshot_ending (SnapshotMeans before after) on_listing before after ending

-- what it comes to
abbrev pub SnapshotAnswers : List ℕ → Content → Ending → Type 0
SnapshotAnswers name content = Ended snapshot_ending (SnapshotComes name content.bytes content.held)

-- where the touched objects tell, what ended is what it comes to, or it stopped
pub record TellsOfWorld {types : Types} (ways : Ways types) : Type 0 where
  pub snapshot : (name : List ℕ) → TellsEnding ways on_listing (SnapshotRuns ways name) (SnapshotAnswers name)
