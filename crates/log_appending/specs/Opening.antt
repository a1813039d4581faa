-- Why nothing was appended before anything was signed.
use Rattle.std.specs.Prelude.{◌≡◌, ℕ, Bool, true, false, List, length, Some}
use Rattle.git_object.specs.Repository.{Repository}
use Rattle.keeper_api.specs.declared.keepers.Keeper as keeper
use Rattle.edge_io.specs.declared.disks.Disk as disk
use Rattle.lms_keys.specs.HssSecret.{Secret}
use Rattle.leaf_journal.specs.KeyFile.{IsKeyFile}
use Rattle.leaf_journal.specs.Files.{IsNoKeyFile}
use Rattle.leaf_journal.specs.declared.open_keys.OpenFault.{OpenFault}
use Rattle.leaf_journal.specs.declared.open_keys.OpenFault.TheVariants as opening
use Rattle.rsl_chain.specs.Logs.{IsBreakOf, IsLogOf}
use Rattle.rsl_chain.specs.declared.log_faults.LogFault.{LogFault}
use Rattle.rsl_chain.specs.declared.log_faults.LogFault.TheVariants as log
use Rattle.log_appending.specs.declared.opening.ReadingFault.{ReadingFault}
use Rattle.log_appending.specs.declared.opening.ReadingFault.TheVariants.{KeyFile, DiskFailed, LogBroken, TooLarge}
use Rattle.log_appending.specs.declared.opening.ReadingFault.TheVariants.{KeeperFailed, Memory}

-- what a refusal of the key file is here, and one of the log
abbrev pub opened_fault : OpenFault → ReadingFault
opened_fault opening.KeyFile = KeyFile
opened_fault opening.DiskFailed = DiskFailed
opened_fault opening.Memory = Memory

abbrev pub log_fault : LogFault → ReadingFault
log_fault (log.Broken id) = LogBroken id
log_fault log.Failed = KeeperFailed
log_fault log.Memory = Memory

-- which refusals are a fault of the store, and of the disk
abbrev pub unread_keeper : ReadingFault → Bool
unread_keeper KeyFile = false
unread_keeper DiskFailed = false
unread_keeper (LogBroken id) = false
unread_keeper TooLarge = false
unread_keeper KeeperFailed = true
unread_keeper Memory = false

abbrev pub unread_disk : ReadingFault → Bool
unread_disk KeyFile = false
unread_disk DiskFailed = true
unread_disk (LogBroken id) = false
unread_disk TooLarge = false
unread_disk KeeperFailed = false
unread_disk Memory = false

-- a log is not refused for its length
abbrev pub IsAnyLength : ReadingFault → Type 0
IsAnyLength KeyFile = Unit {0}
IsAnyLength DiskFailed = Unit {0}
IsAnyLength (LogBroken id) = Unit {0}
IsAnyLength TooLarge = ⊥
IsAnyLength KeeperFailed = Unit {0}
IsAnyLength Memory = Unit {0}

module _ {R D : Type 0} (keeper_of : keeper.Ghosts R) (disk_of : disk.Ghosts D) (store : R) (file : D) where
  -- the disk holds a key file
  abbrev pub HoldsKey : Type 0
  HoldsKey = (bytes : List ℕ) → disk_of.seen file ≡ Some bytes → (secret : Secret) × IsKeyFile bytes secret

  -- the log breaks at this commit
  abbrev pub BreaksAt : List ℕ → Type 0
  BreaksAt id = (r : Repository) → keeper_of.content store ≡ Some r → IsBreakOf r id

  -- the log has as many entries as a log may have
  abbrev pub IsFull : Type 0
  IsFull = (r : Repository) → keeper_of.content store ≡ Some r → (ids : List (List ℕ)) × IsLogOf r ids
      × (length ids ≡ 1000000)

  -- what each refusal says of the key file and of the store: the log is read only behind a key file
  abbrev pub WhyUnread : ReadingFault → Type 0
  WhyUnread KeyFile = (bytes : List ℕ) → disk_of.seen file ≡ Some bytes → IsNoKeyFile bytes
  WhyUnread DiskFailed = Unit {0}
  WhyUnread (LogBroken id) = HoldsKey × BreaksAt id
  WhyUnread TooLarge = HoldsKey × IsFull
  WhyUnread KeeperFailed = HoldsKey
  WhyUnread Memory = Unit {0}
