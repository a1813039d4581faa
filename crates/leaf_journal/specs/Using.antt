-- What each outcome of signing with one leaf means.
use Rattle.std.specs.Prelude.{◌≡◌, ◌+◌, ℕ, List, [], ◌∷◌, Some, Result, Ok, Err}
use Rattle.edge_io.specs.Disk.{Torn, Written}
use Rattle.edge_io.specs.declared.disks.Disk as disk
use Rattle.lms_keys.specs.HssSecret.{Secret}
use Rattle.leaf_journal.specs.KeyFile.{UsedInAll, start_of}
use Rattle.leaf_journal.specs.Signing.{Signs}
use Rattle.leaf_journal.specs.declared.faults.SignFault.{SignFault}
use Rattle.leaf_journal.specs.declared.faults.SignFault.TheVariants.{Exhausted, Disk}
use Rattle.leaf_journal.specs.Files.{IsLeastUnused, IsUsedUp}

module _ {D : Type 0} (disk_of : disk.Ghosts D) where
  -- the signature is good for the key of the file, with the first unused leaf, which is used in all that a stop may
  -- leave
  pub record SignsWith (secret : Secret) (message : List ℕ) (old new : D) (signature : List ℕ) : Type 0 where
    pub leaf : ℕ
    pub file : (now : List ℕ) → disk_of.seen new ≡ Some now
        → (was : List ℕ) × (disk_of.seen old ≡ Some was) × IsLeastUnused was secret leaf
        × Written (start_of secret.below + leaf) (1 ∷ []) was now
    pub used : UsedInAll (disk_of.may_leave new) leaf
    pub signs : Signs secret message leaf signature

  -- what reading gives differs at most at the byte of the first unused leaf
  abbrev pub MayTear : Secret → D → D → Type 0
  MayTear secret old new = (now : List ℕ) → disk_of.seen new ≡ Some now
      → (was : List ℕ) × (leaf : ℕ) × (disk_of.seen old ≡ Some was) × IsLeastUnused was secret leaf
      × Torn (start_of secret.below + leaf) 1 was now

  -- each leaf is used, and the disk is as it was
  pub record FindsNone (secret : Secret) (old new : D) : Type 0 where
    pub used_up : (file : List ℕ) → disk_of.seen old ≡ Some file → IsUsedUp file secret
    pub same : new ≡ old

  abbrev pub UseEnds : Secret → List ℕ → D → D → Result (List ℕ) SignFault → Type 0
  UseEnds secret message old new (Ok signature) = SignsWith secret message old new signature
  UseEnds secret message old new (Err Exhausted) = FindsNone secret old new
  UseEnds secret message old new (Err Disk) = MayTear secret old new
