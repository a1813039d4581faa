-- What is left of a disk on which no key file was made.
use Rattle.std.specs.Prelude.{◌≡◌, ◌⊎◌, ◌+◌, ◌^◌, ℕ, List, [], Some}
use Rattle.octets.specs.Content.{Told}
use Rattle.edge_io.specs.Disk.{Follows, IsKept, Torn}
use Rattle.edge_io.specs.declared.disks.Disk as disk
use Rattle.lms_keys.specs.HssSecret.{Secret, height_of}
use Rattle.leaf_journal.specs.KeyFile.{start_of}

-- how many bytes a key's file has
abbrev pub size_of : Secret → ℕ
size_of secret = start_of secret.below + 2 ^ height_of secret

module _ {D : Type 0} (disk_of : disk.Ghosts D) (old new : D) where
  -- it held nothing, and any part of so many bytes may stand there, with any bytes
  pub record IsCutShort (size : ℕ) : Type 0 where
    pub nothing : (file : List ℕ) → disk_of.seen new ≡ Some file → disk_of.seen old ≡ Some []
    pub seen : Told (Torn 0 size) (disk_of.seen old) (disk_of.seen new)
    pub crash : Follows (Torn 0 size) (disk_of.may_leave old) (disk_of.may_leave new)

  -- it is as it was, or it held nothing and has a part of the file; what it held is never written over
  abbrev pub IsSpared : ℕ → Type 0
  IsSpared size = IsKept (disk_of.seen old) (disk_of.seen new) (disk_of.may_leave old) (disk_of.may_leave new)
      ⊎ IsCutShort size

-- the disk held nothing, or it might have left this file
abbrev pub MayBeNew : {D : Type 0} → disk.Ghosts D → D → List ℕ → Type 0
MayBeNew disk_of old file = (disk_of.seen old ≡ Some []) ⊎ disk_of.may_leave old file
