-- What each outcome of signing a draft means, and of adding its entry to the log.
use Rattle.std.specs.Prelude.{◌≡◌, ℕ, Bool, true, false, List, Result, Ok, Err}
use Rattle.edge_io.specs.declared.disks.Disk as disk
use Rattle.lms_keys.specs.HssSecret.{Secret}
use Rattle.leaf_journal.specs.Using.{FindsNone, MayTear, SignsWith}
use Rattle.rsl_chain.specs.declared.drafts.Draft.{Draft}
use Rattle.log_appending.specs.Entries.{ReadsAs, draft_text, entry_text}
use Rattle.log_appending.specs.declared.appending.AppendFault.{AppendFault}
use Rattle.log_appending.specs.declared.appending.AppendFault.TheVariants.{ClockFailed, Exhausted, DiskFailed}
use Rattle.log_appending.specs.declared.appending.AppendFault.TheVariants.{CommitFailed, Memory, MemoryAfter}

-- which refusals are a fault of the clock, of the disk, of the store
abbrev pub clock_failed : AppendFault → Bool
clock_failed ClockFailed = true
clock_failed Exhausted = false
clock_failed DiskFailed = false
clock_failed CommitFailed = false
clock_failed Memory = false
clock_failed MemoryAfter = false

abbrev pub disk_failed : AppendFault → Bool
disk_failed ClockFailed = false
disk_failed Exhausted = false
disk_failed DiskFailed = true
disk_failed CommitFailed = false
disk_failed Memory = false
disk_failed MemoryAfter = false

abbrev pub commit_failed : AppendFault → Bool
commit_failed ClockFailed = false
commit_failed Exhausted = false
commit_failed DiskFailed = false
commit_failed CommitFailed = true
commit_failed Memory = false
commit_failed MemoryAfter = false

module _ {D : Type 0} (disk_of : disk.Ghosts D) (secret : Secret) (draft : Draft) (old new : D) where
  -- the first unused leaf signed the draft, and this is the body of the entry's commit
  pub record SignsEntry (text : List ℕ) : Type 0 where
    pub signature : List ℕ
    pub signs : SignsWith disk_of secret (draft_text draft) old new signature
    pub text_is : text ≡ entry_text draft secret signature
    pub reads : ReadsAs draft secret signature text

  -- the first unused leaf signed the draft, and nothing came of it
  pub record LosesLeaf : Type 0 where
    pub signature : List ℕ
    pub signs : SignsWith disk_of secret (draft_text draft) old new signature

  -- the body of a signed entry; or each leaf is used; or the first unused one is torn; or nothing was done; or a leaf
  -- is
  -- lost
  abbrev pub SignEnds : Result (List ℕ) AppendFault → Type 0
  SignEnds (Ok text) = SignsEntry text
  SignEnds (Err ClockFailed) = ⊥
  SignEnds (Err Exhausted) = FindsNone disk_of secret old new
  SignEnds (Err DiskFailed) = MayTear disk_of secret old new
  SignEnds (Err CommitFailed) = ⊥
  SignEnds (Err Memory) = new ≡ old
  SignEnds (Err MemoryAfter) = LosesLeaf
