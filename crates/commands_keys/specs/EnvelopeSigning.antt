-- What each outcome of signing an envelope with the key file means.
use Rattle.std.specs.Prelude.{◌≡◌, ◌++◌, ℕ, Bool, true, false, List, Some, Result, Ok, Err, codes}
use Rattle.edge_io.specs.Disk.{IsKept}
use Rattle.edge_io.specs.declared.disks.Disk as disk
use Rattle.lms_keys.specs.HssSecret.{Secret}
use Rattle.leaf_journal.specs.KeyFile.{IsKeyFile}
use Rattle.leaf_journal.specs.Files.{IsUsedUp}
use Rattle.leaf_journal.specs.Opening.{WhyUnopened, open_failed}
use Rattle.leaf_journal.specs.Using.{MayTear, SignsWith}
use Rattle.dsse_envelope.specs.Envelopes.{reading}
use Rattle.dsse_envelope.specs.Sealing.{has_room, sealed}
use Rattle.dsse_envelope.specs.Written.{text_of}
use Rattle.dsse_envelope.specs.declared.envelope.Envelope.{Envelope}
use Rattle.commands_keys.specs.Seals.{id_text, signature_by, signed_text}
use Rattle.commands_keys.specs.declared.signing_envelopes.SigningFault.{SigningFault}
use Rattle.commands_keys.specs.declared.signing_envelopes.SigningFault.TheVariants.{Unopened, Full, Exhausted}
use Rattle.commands_keys.specs.declared.signing_envelopes.SigningFault.TheVariants.{DiskFailed, Memory, MemoryAfter}

-- the text of an envelope and a line feed
abbrev pub line_of : Envelope → List ℕ
line_of e = text_of e ++ codes "\n"

-- the fault that the disk counts
abbrev pub disk_failed : SigningFault → Bool
disk_failed (Unopened fault) = open_failed fault
disk_failed Full = false
disk_failed Exhausted = false
disk_failed DiskFailed = true
disk_failed Memory = false
disk_failed MemoryAfter = false

module _ {D : Type 0} (disk_of : disk.Ghosts D) (e : Envelope) (old new : D) where
  abbrev pub Keeps : Type 0
  Keeps = IsKept (disk_of.seen old) (disk_of.seen new) (disk_of.may_leave old) (disk_of.may_leave new)

  -- the disk is as it was, and what it holds is so
  pub record Holds (P : List ℕ → Type 0) : Type 0 where
    pub kept : Keeps
    pub holds : (file : List ℕ) → disk_of.seen new ≡ Some file → P file

  -- a signature of this key, for which there is a place, is good for the key of the file, with its first unused leaf
  pub record Signs (secret : Secret) (signature : List ℕ) : Type 0 where
    pub place : has_room (id_text secret) e.signatures ≡ true
    pub signs : SignsWith disk_of secret (signed_text e) old new signature

  -- the line is the text of the envelope with such a signature in its place, which reads as it
  pub record Seals (line : List ℕ) : Type 0 where
    pub secret : Secret
    pub signature : List ℕ
    pub signs : Signs secret signature
    pub line_is : line ≡ line_of (sealed (signature_by secret signature) e)
    pub reads_back : reading (text_of (sealed (signature_by secret signature) e))
        ≡ Ok (sealed (signature_by secret signature) e)

  -- the envelope has 64 signatures, and none is of the file's key
  pub record HasNoPlace : Type 0 where
    pub secret : Secret
    pub none : has_room (id_text secret) e.signatures ≡ false
    pub file : Holds (λ file. IsKeyFile file secret)

  -- there is a place for a signature of the file's key, of which each leaf is used
  pub record IsSpent : Type 0 where
    pub secret : Secret
    pub place : has_room (id_text secret) e.signatures ≡ true
    pub file : Holds (λ file. IsUsedUp file secret)

  -- there is a place for a signature of the file's key, of which the first unused leaf is torn
  pub record IsTorn : Type 0 where
    pub secret : Secret
    pub place : has_room (id_text secret) e.signatures ≡ true
    pub tears : MayTear disk_of secret old new

  -- a signature was made, and is lost
  pub record LosesOne : Type 0 where
    pub secret : Secret
    pub signature : List ℕ
    pub signs : Signs secret signature

  abbrev pub RefusesSigning : SigningFault → Type 0
  RefusesSigning (Unopened fault) = Holds (WhyUnopened fault)
  RefusesSigning Full = HasNoPlace
  RefusesSigning Exhausted = IsSpent
  RefusesSigning DiskFailed = IsTorn
  RefusesSigning Memory = Keeps
  RefusesSigning MemoryAfter = LosesOne

  abbrev pub SigningEnds : Result (List ℕ) SigningFault → Type 0
  SigningEnds (Ok line) = Seals line
  SigningEnds (Err fault) = RefusesSigning fault
