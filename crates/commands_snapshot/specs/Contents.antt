-- What `snapshot` comes to where source and store tell what they hold, faults and memory aside.
use Rattle.std.specs.Prelude.{◌<◌, ◌≤◌, ◌⊎◌, ℕ, List, length, Option, Result, Ok, Err}
use Rattle.git_object.specs.Repository.{Repository}
use Rattle.object_making.specs.Reading.{IsNoListing}
use Rattle.commands_snapshot.specs.Making.{HasLargeTree, HasNoTree, MadeOf}
use Rattle.commands_snapshot.specs.Parents.{HasNoCommit, IsParent}
use Rattle.commands_snapshot.specs.declared.making.InputFault.{InputFault}
use Rattle.commands_snapshot.specs.declared.making.InputFault.TheVariants as input
use Rattle.commands_snapshot.specs.declared.making.Made.{Made}
use Rattle.commands_snapshot.specs.declared.snapshots.SnapshotFault.{SnapshotFault}
use Rattle.commands_snapshot.specs.declared.snapshots.SnapshotFault.TheVariants.{Untaken, Unstored, SinkFailed}
use Rattle.commands_snapshot.specs.declared.storing.StoringFault.{StoringFault}
use Rattle.commands_snapshot.specs.declared.storing.StoringFault.TheVariants as storing

module _ (name bytes : List ℕ) (was : Repository) where
  -- the bytes are a listing of at most 1 GiB, of which objects are made
  pub record HasMade : Type 0 where
    pub made : Made
    pub short : length bytes ≤ 1073741824
    pub made_of : MadeOf bytes made

  -- and the reference is not there, or stands at a commit
  pub record MaySnap : Type 0 where
    pub input : HasMade
    pub parent : Option (List ℕ)
    pub is_parent : IsParent was name parent

  -- or it stands at what is no commit
  pub record HasNoParent (id : List ℕ) : Type 0 where
    pub input : HasMade
    pub none : HasNoCommit was name id

  abbrev pub InputComes : InputFault → Type 0
  InputComes input.TooLong = 1073741824 < length bytes
  InputComes input.NoListing = (length bytes ≤ 1073741824) × IsNoListing bytes
  InputComes input.NoTree = (length bytes ≤ 1073741824) × HasNoTree bytes
  InputComes input.LargeTree = (length bytes ≤ 1073741824) × HasLargeTree bytes
  InputComes input.SourceFailed = ⊥
  InputComes input.Memory = ⊥

  abbrev pub StoringComes : StoringFault → Type 0
  StoringComes storing.KeeperFailed = ⊥
  StoringComes (storing.NoCommit id) = HasNoParent id
  StoringComes storing.ClockFailed = ⊥
  StoringComes storing.CommitFailed = ⊥
  StoringComes storing.Memory = ⊥

  -- what `snapshot` comes to
  abbrev pub SnapshotComes : Result (Unit {0}) SnapshotFault → Type 0
  SnapshotComes (Ok done) = MaySnap
  SnapshotComes (Err (Untaken fault)) = InputComes fault
  SnapshotComes (Err (Unstored fault)) = StoringComes fault
  SnapshotComes (Err SinkFailed) = ⊥

-- of the listing that the bytes are no objects can be made within the limit
abbrev pub IsRefused : List ℕ → Type 0
IsRefused bytes = HasNoTree bytes ⊎ HasLargeTree bytes

-- objects are made of the bytes, or refused, and not both: two trees of one id might be made and refused at once
abbrev pub IsSettled : List ℕ → Type 0
IsSettled bytes = (made : Made) → MadeOf bytes made → IsRefused bytes → ⊥
