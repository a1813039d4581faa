-- The approval that is to be signed, and why there is none.
use Rattle.std.specs.Prelude.{◌≡◌, ◌⊎◌, ℕ, true, false, IsUtf8, List, [], Option, Some, None}
use Rattle.git_object.specs.Repository.{Repository, value_of}
use Rattle.lms_keys.specs.HssSecret.{Secret, signature_len}
use Rattle.rsl_chain.specs.Logs.{IsUnbroken}
use Rattle.rsl_chain.specs.declared.log_faults.LogFault.TheVariants as log
use Rattle.dsse_envelope.specs.Sealing.{has_room}
use Rattle.dsse_envelope.specs.declared.envelope.Envelope.{Envelope}
use Rattle.approvals.specs.Payloads.{payload_text}
use Rattle.approvals.specs.Approvals.{approval_type, is_approval}
use Rattle.approvals.specs.Lookups.{approval_at}
use Rattle.git_object.specs.References.{attestations_name}
use Rattle.approvals.specs.Sites.{IsFitSite, IsInWayOf}
use Rattle.approvals.specs.declared.attest_faults.AttestFault.{AttestFault}
use Rattle.approvals.specs.declared.attest_faults.AttestFault.TheVariants as attest
use Rattle.commands_keys.specs.Seals.{Fits, FitsNot, IsSealable, id_text}
use Rattle.commands_approve.specs.Ends.{ComesFrom, HasTree, IsBrokenAt}
use Rattle.commands_approve.specs.declared.ends.Ends.{Ends}
use Rattle.commands_approve.specs.declared.ends.NotWanted.{NotWanted}
use Rattle.commands_approve.specs.declared.ends.NotWanted.TheVariants.{Log, Unreadable, Full, TooLong}
use Rattle.commands_approve.specs.declared.preparing.Prepared.{Prepared}

-- the approval that was found, or one without signatures
abbrev pub approval_or : List ℕ → Option Envelope → Envelope
approval_or payload None = record { payload_type = approval_type; payload = payload; signatures = [] }
approval_or payload (Some envelope) = envelope

-- the approval between these ends, as it is kept under the attestations' value
abbrev pub IsApprovalOf : Repository → List ℕ → Ends → Envelope → Type 0
IsApprovalOf r name ends envelope = envelope ≡ approval_or (payload_text name ends.from ends.tree)
    (approval_at r (value_of r attestations_name) name ends.from ends.tree)

-- the approval of a reference, from where it stood after the entries at these ids to the target's tree
pub record IsWanted (r : Repository) (ids : List (List ℕ)) (name target : List ℕ) (ends : Ends)
    (envelope : Envelope) : Type 0 where
  pub comes : ComesFrom r ids name ends.from
  pub goes : HasTree r target ends.tree
  pub is : IsApprovalOf r name ends envelope

-- a signature of the key has a place in it, and does not make its text too long
pub record HasRoom (secret : Secret) (envelope : Envelope) : Type 0 where
  pub place : has_room (id_text secret) envelope.signatures ≡ true
  pub fits : Fits (id_text secret) (signature_len secret) envelope

-- or it has none, or would make the text too long
abbrev pub HasNoPlace : Secret → Envelope → Type 0
HasNoPlace secret envelope = has_room (id_text secret) envelope.signatures ≡ false

pub record IsTooLong (secret : Secret) (envelope : Envelope) : Type 0 where
  pub place : has_room (id_text secret) envelope.signatures ≡ true
  pub long : FitsNot (id_text secret) (signature_len secret) envelope

-- there is room, and an object is in the way of the approval's place among the attestations
pub record IsInWay (r : Repository) (name : List ℕ) (ends : Ends) (secret : Secret) (envelope : Envelope)
    (id : List ℕ) : Type 0 where
  pub room : HasRoom secret envelope
  pub in_way : IsInWayOf r (value_of r attestations_name) name ends.from ends.tree id

-- nothing is in the way of the approval's place
pub record IsFree (r : Repository) (name : List ℕ) (ends : Ends) : Type 0 where
  pub free : (id : List ℕ) → IsInWayOf r (value_of r attestations_name) name ends.from ends.tree id → ⊥

-- an approval that can be signed by the key and put among the attestations
pub record IsPrepared (secret : Secret) (name : List ℕ) (prepared : Prepared) : Type 0 where
  pub approves : is_approval name prepared.ends.from prepared.ends.tree prepared.envelope ≡ true
  pub sealable : IsSealable prepared.envelope
  pub keyid_is : prepared.keyid ≡ id_text secret
  pub utf8 : IsUtf8 prepared.keyid
  pub room : HasRoom secret prepared.envelope
  pub fit : IsFitSite prepared.site

-- ---- why there is none

-- why no place was found is why there is no approval
abbrev pub no_place : AttestFault → NotWanted
no_place (attest.Unreadable id) = Unreadable id
no_place attest.Failed = Log log.Failed
no_place attest.Memory = Log log.Memory

abbrev pub WhyNoRoom : Secret → Envelope → NotWanted → Type 0
WhyNoRoom secret envelope (Log fault) = fault ≡ log.Memory
WhyNoRoom secret envelope (Unreadable id) = ⊥
WhyNoRoom secret envelope Full = HasNoPlace secret envelope
WhyNoRoom secret envelope TooLong = IsTooLong secret envelope

abbrev pub WhyNoPlace : Repository → List ℕ → List ℕ → Ends → NotWanted → Type 0
WhyNoPlace r attestations name ends (Log fault) = IsUnbroken fault
WhyNoPlace r attestations name ends (Unreadable id) = IsInWayOf r attestations name ends.from ends.tree id
WhyNoPlace r attestations name ends Full = ⊥
WhyNoPlace r attestations name ends TooLong = ⊥

-- the approval between the ends, of which this is so
pub record HasApproval (r : Repository) (name : List ℕ) (ends : Ends) (P : Envelope → Type 0) : Type 0 where
  pub envelope : Envelope
  pub is : IsApprovalOf r name ends envelope
  pub so : P envelope

abbrev pub WhyUnprepared : Repository → List ℕ → Ends → Secret → NotWanted → Type 0
WhyUnprepared r name ends secret (Log fault) = IsUnbroken fault
WhyUnprepared r name ends secret (Unreadable id) =
    HasApproval r name ends (λ envelope. IsInWay r name ends secret envelope id)
WhyUnprepared r name ends secret Full = HasApproval r name ends (HasNoPlace secret)
WhyUnprepared r name ends secret TooLong = HasApproval r name ends (IsTooLong secret)

module _ (name target : List ℕ) (r : Repository) (ids : List (List ℕ)) (secret : Secret) where
  -- the wanted approval, of which this is so
  pub record HasWanted (P : Ends → Envelope → Type 0) : Type 0 where
    pub ends : Ends
    pub envelope : Envelope
    pub wanted : IsWanted r ids name target ends envelope
    pub so : P ends envelope

  abbrev pub IsUnreadable : List ℕ → Type 0
  IsUnreadable id = IsBrokenAt r target id ⊎ HasWanted (λ ends envelope. IsInWay r name ends secret envelope id)

  abbrev pub IsFull : Type 0
  IsFull = HasWanted (λ ends envelope. HasNoPlace secret envelope)

  abbrev pub IsOverlong : Type 0
  IsOverlong = HasWanted (λ ends envelope. IsTooLong secret envelope)

  abbrev pub WhyNotWanted : NotWanted → Type 0
  WhyNotWanted (Log fault) = IsUnbroken fault
  WhyNotWanted (Unreadable id) = IsUnreadable id
  WhyNotWanted Full = IsFull
  WhyNotWanted TooLong = IsOverlong
