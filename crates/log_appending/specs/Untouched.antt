-- A store and a disk that are as they were.
use Rattle.keeper_api.specs.Undisturbed.{Undisturbed}
use Rattle.keeper_api.specs.declared.keepers.Keeper as keeper
use Rattle.edge_io.specs.Disk.{IsKept}
use Rattle.edge_io.specs.declared.disks.Disk as disk

-- the disk reads the same, and a stop leaves no more of it than it could
abbrev pub KeepsFile : {D : Type 0} → disk.Ghosts D → D → D → Type 0
KeepsFile disk_of file file_now = IsKept (disk_of.seen file) (disk_of.seen file_now) (disk_of.may_leave file)
    (disk_of.may_leave file_now)

-- and the store is undisturbed
pub record Untouched {R D : Type 0} (keeper_of : keeper.Ghosts R) (disk_of : disk.Ghosts D) (old new : R)
    (file file_now : D) : Type 0 where
  pub store : Undisturbed keeper_of old new
  pub kept : KeepsFile disk_of file file_now
