-- How `approve` ends the program, what it comes to where store and disk tell what they hold, and the laws of that.
use Rattle.std.specs.Prelude.{◌≡◌, ◌⊎◌, ℕ, List, Option, Some, Result, Ok, Err}
use Rattle.git_object.specs.Repository.{Repository}
use Rattle.keeper_api.specs.declared.keepers.Keeper as keeper
use Rattle.edge_io.specs.declared.disks.Disk as disk
use Rattle.lms_keys.specs.HssSecret.{Secret}
use Rattle.leaf_journal.specs.KeyFile.{IsKeyFile}
use Rattle.leaf_journal.specs.Files.{IsLeastUnused, IsNoKeyFile, IsUsedUp}
use Rattle.rsl_chain.specs.Logs.{IsLogOf}
use Rattle.worlds.specs.Endings.{IsStopped}
use Rattle.worlds.specs.declared.ending.Ending.{Ending}
use Rattle.worlds.specs.declared.ending.Ending.TheVariants as ending
use Rattle.worlds.specs.declared.ending.Refusal.TheVariants as refusal
use Rattle.log_appending.specs.Outcomes.{HasBreak, record_ending}
use Rattle.log_appending.specs.declared.appending.AppendFault.{AppendFault}
use Rattle.log_appending.specs.declared.appending.AppendFault.TheVariants as append
use Rattle.log_appending.specs.declared.opening.ReadingFault.{ReadingFault}
use Rattle.log_appending.specs.declared.opening.ReadingFault.TheVariants as reading
use Rattle.log_appending.specs.declared.telling.RecordFault.TheVariants.{Unread, BreakUntold, Unappended, SinkFailed}
use Rattle.commands_approve.specs.Approving.{ApproveEnds}
use Rattle.commands_approve.specs.Wanted.{HasRoom, HasWanted, IsFree, IsFull, IsOverlong, IsUnreadable}
use Rattle.commands_approve.specs.declared.approving.ApproveFault.{ApproveFault}
use Rattle.commands_approve.specs.declared.approving.ApproveFault.TheVariants.{Unrecorded, Unreadable, Full, TooLong}

abbrev pub fault_ending : ApproveFault → Ending
fault_ending (Unrecorded fault) = record_ending (Err fault)
fault_ending (Unreadable id) = ending.Refused (refusal.Object id)
fault_ending Full = ending.Refused refusal.Input
fault_ending TooLong = ending.Refused refusal.Input

abbrev pub approve_ending : Result (Unit {0}) ApproveFault → Ending
approve_ending (Ok done) = ending.Done
approve_ending (Err fault) = fault_ending fault

-- ---- what it comes to

module _ (name target file : List ℕ) (was : Repository) where
  -- behind the log, with this key, this is so
  pub record BehindLog (secret : Secret) (Why : Repository → List (List ℕ) → Secret → Type 0) : Type 0 where
    pub ids : List (List ℕ)
    pub log : IsLogOf was ids
    pub why : Why was ids secret

  -- the wanted approval has room for the key's signature, and nothing is in the way of its place
  abbrev pub IsOpen : Repository → List (List ℕ) → Secret → Type 0
  IsOpen r ids secret = HasWanted name target r ids secret (λ ends envelope. HasRoom secret envelope
      × IsFree r name ends)

  -- the file is one of a key with an unused leaf
  pub record MayApprove : Type 0 where
    pub secret : Secret
    pub leaf : ℕ
    pub unused : IsLeastUnused file secret leaf
    pub open_ : BehindLog secret IsOpen

  -- or of one of which each leaf is used
  pub record IsSpent : Type 0 where
    pub secret : Secret
    pub used_up : IsUsedUp file secret
    pub open_ : BehindLog secret IsOpen

  -- or of a key with which this is so
  pub record BehindKey (Why : Repository → List (List ℕ) → Secret → Type 0) : Type 0 where
    pub secret : Secret
    pub is : IsKeyFile file secret
    pub behind : BehindLog secret Why

  abbrev pub UnreadComes : ReadingFault → Type 0
  UnreadComes reading.KeyFile = IsNoKeyFile file
  UnreadComes reading.DiskFailed = ⊥
  UnreadComes (reading.LogBroken id) = HasBreak file was id
  UnreadComes reading.TooLarge = ⊥
  UnreadComes reading.KeeperFailed = ⊥
  UnreadComes reading.Memory = ⊥

  abbrev pub UnkeptComes : AppendFault → Type 0
  UnkeptComes append.ClockFailed = ⊥
  UnkeptComes append.Exhausted = IsSpent
  UnkeptComes append.DiskFailed = ⊥
  UnkeptComes append.CommitFailed = ⊥
  UnkeptComes append.Memory = ⊥
  UnkeptComes append.MemoryAfter = ⊥

  abbrev pub ApproveComes : Result (Unit {0}) ApproveFault → Type 0
  ApproveComes (Ok done) = MayApprove
  ApproveComes (Err (Unrecorded (Unread fault))) = UnreadComes fault
  ApproveComes (Err (Unrecorded (BreakUntold id))) = ⊥
  ApproveComes (Err (Unrecorded (Unappended fault))) = UnkeptComes fault
  ApproveComes (Err (Unrecorded SinkFailed)) = ⊥
  ApproveComes (Err (Unreadable id)) = BehindKey (λ r ids secret. IsUnreadable name target r ids secret id)
  ApproveComes (Err Full) = BehindKey (IsFull name target)
  ApproveComes (Err TooLong) = BehindKey (IsOverlong name target)

-- it comes to one outcome at most
pub record OneOfApprovals : Type 0 where
  pub approved : (name target file : List ℕ) (was : Repository) (a b : Result (Unit {0}) ApproveFault)
      → ApproveComes name target file was a → ApproveComes name target file was b → a ≡ b

-- what ended is what the command comes to, or it stopped
pub record TellsOfApprovals {R D : Type 0} (keeper_of : keeper.Ghosts R) (disk_of : disk.Ghosts D) : Type 0 where
  pub approved : (name target : List ℕ) (left left_now : Option (List ℕ)) (was now : Repository)
      (file file_now : List ℕ) (old new : R) (key key_now : D) (printed printed_now : Option (List ℕ))
      (outcome : Result (Unit {0}) ApproveFault)
      → keeper_of.content old ≡ Some was → keeper_of.content new ≡ Some now → disk_of.seen key ≡ Some file
      → disk_of.seen key_now ≡ Some file_now
      → ApproveEnds keeper_of disk_of name target left left_now old new key key_now printed printed_now outcome
      → ApproveComes name target file was outcome ⊎ IsStopped (approve_ending outcome)
