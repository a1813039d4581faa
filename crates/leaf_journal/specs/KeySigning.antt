-- What each outcome of opening a key file and signing means.
use Rattle.std.specs.Prelude.{◌≡◌, ℕ, Bool, List, Some, Result, Ok, Err}
use Rattle.edge_io.specs.Disk.{IsKept}
use Rattle.edge_io.specs.declared.disks.Disk as disk
use Rattle.lms_keys.specs.HssSecret.{Secret, public_bytes}
use Rattle.leaf_journal.specs.Faults.{sign_failed}
use Rattle.leaf_journal.specs.declared.faults.SignFault.TheVariants as sign
use Rattle.leaf_journal.specs.Files.{IsUsedUp}
use Rattle.leaf_journal.specs.Opening.{WhyUnopened, open_failed}
use Rattle.leaf_journal.specs.Using.{MayTear, SignsWith}
use Rattle.leaf_journal.specs.declared.signing.KeyFault.{KeyFault}
use Rattle.leaf_journal.specs.declared.signing.KeyFault.TheVariants.{Unopened, Unsigned}
use Rattle.leaf_journal.specs.declared.signing.Signed.{Signed}

-- the fault that the disk counts
abbrev pub key_failed : KeyFault → Bool
key_failed (Unopened fault) = open_failed fault
key_failed (Unsigned fault) = sign_failed fault

module _ {D : Type 0} (disk_of : disk.Ghosts D) (message : List ℕ) (old new : D) where
  -- the disk is as it was, and what it holds is so
  pub record Finds (P : List ℕ → Type 0) : Type 0 where
    pub kept : IsKept (disk_of.seen old) (disk_of.seen new) (disk_of.may_leave old) (disk_of.may_leave new)
    pub found : (file : List ℕ) → disk_of.seen new ≡ Some file → P file

  -- a signature for the key of the file; or the file as it was, and why there is none; or its first unused leaf torn
  abbrev pub SignEnds : Result Signed KeyFault → Type 0
  SignEnds (Ok signed) = (secret : Secret) × (signed.public ≡ public_bytes secret)
      × SignsWith disk_of secret message old new signed.signature
  SignEnds (Err (Unopened fault)) = Finds (WhyUnopened fault)
  SignEnds (Err (Unsigned sign.Exhausted)) = Finds (λ file. (secret : Secret) × IsUsedUp file secret)
  SignEnds (Err (Unsigned sign.Disk)) = (secret : Secret) × MayTear disk_of secret old new
