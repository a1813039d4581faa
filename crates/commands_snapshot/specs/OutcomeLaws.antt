-- The laws of `snapshot`: one ending at most, and what is told is what it comes to.
use Rattle.std.specs.Prelude.{◌≡◌, ◌⊎◌, ℕ, List, Option, Some, Result}
use Rattle.git_object.specs.Repository.{Repository}
use Rattle.keeper_api.specs.declared.keepers.Keeper as keeper
use Rattle.worlds.specs.Endings.{IsStopped}
use Rattle.commands_snapshot.specs.Contents.{IsSettled, SnapshotComes}
use Rattle.commands_snapshot.specs.Snapshots.{SnapshotEnds, snapshot_ending}
use Rattle.commands_snapshot.specs.declared.snapshots.SnapshotFault.{SnapshotFault}

-- it ends in one way at most
pub record OneOfTrees : Type 0 where
  pub snapshot : (name bytes : List ℕ) (was : Repository) (a b : Result (Unit {0}) SnapshotFault) → IsSettled bytes
      → SnapshotComes name bytes was a → SnapshotComes name bytes was b → snapshot_ending a ≡ snapshot_ending b

-- what ended is what it comes to, or it stopped
pub record TellsOfTrees {R : Type 0} (keeper_of : keeper.Ghosts R) : Type 0 where
  pub snapshot : (name : List ℕ) (left_now : Option (List ℕ)) (bytes : List ℕ) (time time_now : Option (List ℕ))
      (was now : Repository) (old new : R) (printed printed_now : Option (List ℕ))
      (outcome : Result (Unit {0}) SnapshotFault)
      → keeper_of.content old ≡ Some was → keeper_of.content new ≡ Some now
      → SnapshotEnds keeper_of name (Some bytes) left_now time time_now old new printed printed_now outcome
      → SnapshotComes name bytes was outcome ⊎ IsStopped (snapshot_ending outcome)
