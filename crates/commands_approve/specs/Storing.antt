-- What each outcome of signing an approval and of keeping it means.
use Rattle.std.specs.Prelude.{◌≡◌, ℕ, List, [], ◌∷◌, Option, Some, Result, Ok, Err}
use Rattle.octets.specs.Content.{Told, with_front}
use Rattle.git_object.specs.Repository.{Repository, value_of}
use Rattle.keeper_api.specs.Undisturbed.{Undisturbed}
use Rattle.keeper_api.specs.declared.keepers.Keeper as keeper
use Rattle.edge_io.specs.declared.disks.Disk as disk
use Rattle.keeper_api.specs.Committing.{Gains, MayGain}
use Rattle.lms_keys.specs.HssSecret.{Secret}
use Rattle.leaf_journal.specs.Files.{IsUsedUp}
use Rattle.leaf_journal.specs.Using.{FindsNone, MayTear, SignsWith}
use Rattle.object_making.specs.Texts.{author_of}
use Rattle.dsse_envelope.specs.Envelopes.{reading}
use Rattle.dsse_envelope.specs.Sealing.{sealed}
use Rattle.dsse_envelope.specs.Written.{text_of}
use Rattle.dsse_envelope.specs.declared.envelope.Envelope.{Envelope}
use Rattle.approvals.specs.Attesting.{IsAttestable, IsChange, approval_pair, attested}
use Rattle.git_object.specs.References.{attestations_name}
use Rattle.approvals.specs.Sites.{IsSiteOf}
use Rattle.approvals.specs.declared.attesting.Attested.{Attested}
use Rattle.approvals.specs.declared.sites.Site.{Site}
use Rattle.commands_keys.specs.Seals.{signature_by, signed_text}
use Rattle.log_appending.specs.Untouched.{Untouched}
use Rattle.log_appending.specs.declared.appending.AppendFault.{AppendFault}
use Rattle.log_appending.specs.declared.appending.AppendFault.TheVariants.{ClockFailed, Exhausted, DiskFailed}
use Rattle.log_appending.specs.declared.appending.AppendFault.TheVariants.{CommitFailed, Memory, MemoryAfter}
use Rattle.commands_approve.specs.declared.ends.Ends.{Ends}

-- the approval with a signature of the key in place of its old one, or else last
abbrev pub sealed_by : Secret → List ℕ → Envelope → Envelope
sealed_by secret signature envelope = sealed (signature_by secret signature) envelope

module _ (name : List ℕ) (ends : Ends) (envelope : Envelope) (secret : Secret) (seconds : ℕ) where
  -- the change puts the approval with this signature, which is read as it is written, among the attestations
  pub record Attests (signature : List ℕ) (a : Attested) : Type 0 where
    pub change : IsChange (approval_pair (sealed_by secret signature envelope)) (author_of seconds) a
    pub attestable : IsAttestable name ends.from ends.tree (sealed_by secret signature envelope)
    pub reads_back : reading (text_of (sealed_by secret signature envelope)) ≡ Ok (sealed_by secret signature envelope)

  -- and it is the one of a repository's attestations
  abbrev pub IsOf : Repository → List ℕ → Attested → Type 0
  IsOf r signature a = attested r (value_of r attestations_name) name ends.from ends.tree
      (sealed_by secret signature envelope) (author_of seconds) ≡ Ok a

  -- where its place is this
  abbrev pub IsAt : Site → List ℕ → Attested → Type 0
  IsAt site signature a = (r : Repository) → IsSiteOf r (value_of r attestations_name) name ends.from ends.tree site
      → IsOf r signature a

  module _ {D : Type 0} (disk_of : disk.Ghosts D) (file file_now : D) where
    abbrev pub Signs : List ℕ → Type 0
    Signs signature = SignsWith disk_of secret (signed_text envelope) file file_now signature

    -- the first unused leaf signed the approval, and this is its change at the site
    pub record SignsChange (site : Site) (a : Attested) : Type 0 where
      pub signature : List ℕ
      pub signs : Signs signature
      pub attests : Attests signature a
      pub at : IsAt site signature a

    -- what each outcome of signing means
    abbrev pub SignEnds : Site → Result Attested AppendFault → Type 0
    SignEnds site (Ok a) = SignsChange site a
    SignEnds site (Err ClockFailed) = ⊥
    SignEnds site (Err Exhausted) = FindsNone disk_of secret file file_now
    SignEnds site (Err DiskFailed) = MayTear disk_of secret file file_now
    SignEnds site (Err CommitFailed) = ⊥
    SignEnds site (Err Memory) = file_now ≡ file
    SignEnds site (Err MemoryAfter) = (signature : List ℕ) × Signs signature

module _ {R D : Type 0} (keeper_of : keeper.Ghosts R) (disk_of : disk.Ghosts D) (name : List ℕ) (ends : Ends)
    (envelope : Envelope) (secret : Secret) (old new : R) (file file_now : D) where
  -- the first unused leaf signed the approval, and the change that puts it among the attestations of what was held was
  -- committed, with this outcome
  pub record Keeps (Held : Attested → Type 0) (seconds : ℕ) : Type 0 where
    pub signature : List ℕ
    pub signs : Signs name ends envelope secret seconds disk_of file file_now signature
    pub attested : Attested
    pub attests : Attests name ends envelope secret seconds signature attested
    pub is : Told (λ was now. IsOf name ends envelope secret seconds was signature attested) (keeper_of.content old)
        (keeper_of.content new)
    pub held : Held attested

  -- why it is not kept: each leaf is used; the first unused one may be torn, or is lost; the commit failed; or nothing
  -- was
  -- done
  abbrev pub RefusesKeeping : AppendFault → ℕ → Type 0
  RefusesKeeping ClockFailed seconds = ⊥
  RefusesKeeping Exhausted seconds = Untouched keeper_of disk_of old new file file_now
      × ((bytes : List ℕ) → disk_of.seen file_now ≡ Some bytes → IsUsedUp bytes secret)
  RefusesKeeping DiskFailed seconds = Undisturbed keeper_of old new × MayTear disk_of secret file file_now
  RefusesKeeping CommitFailed seconds = Keeps (λ a. MayGain keeper_of old new a.change) seconds
  RefusesKeeping Memory seconds = Untouched keeper_of disk_of old new file file_now
  RefusesKeeping MemoryAfter seconds = Undisturbed keeper_of old new
      × ((signature : List ℕ) × Signs name ends envelope secret seconds disk_of file file_now signature)

  abbrev pub KeepingEnds : Result Ends AppendFault → ℕ → Type 0
  KeepingEnds (Ok kept) seconds = Keeps (λ a. Gains keeper_of old new a.change) seconds × (kept ≡ ends)
  KeepingEnds (Err fault) seconds = RefusesKeeping fault seconds

  module _ (left left_now : Option (List ℕ)) where
    -- the clock told the seconds, of which this is so
    pub record Timed (P : ℕ → Type 0) : Type 0 where
      pub seconds : ℕ
      pub asked : left ≡ with_front (seconds ∷ []) left_now
      pub is : P seconds

    -- the approval is kept at the time of the clock; or why not, and what is left of it
    abbrev pub StoreEnds : Result Ends AppendFault → Type 0
    StoreEnds (Ok kept) = Timed (KeepingEnds (Ok kept))
    StoreEnds (Err ClockFailed) = Untouched keeper_of disk_of old new file file_now × (left_now ≡ left)
    StoreEnds (Err Exhausted) = Timed (RefusesKeeping Exhausted)
    StoreEnds (Err DiskFailed) = Timed (RefusesKeeping DiskFailed)
    StoreEnds (Err CommitFailed) = Timed (RefusesKeeping CommitFailed)
    StoreEnds (Err Memory) = Timed (RefusesKeeping Memory)
    StoreEnds (Err MemoryAfter) = Timed (RefusesKeeping MemoryAfter)
