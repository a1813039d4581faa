-- What each command comes to where the source and the store tell what they hold: one outcome, faults and memory aside.
use Rattle.std.specs.Prelude.{◌≡◌, ◌≤◌, ◌<◌, ℕ, List, length, Result, Ok, Err}
use Rattle.git_object.specs.Objects.{Pair}
use Rattle.git_object.specs.Repository.{HasObject, Repository}
use Rattle.rsl_chain.specs.Logs.{IsBreakOf, IsLogOf}
use Rattle.clone_stream.specs.Deciding.{Decides}
use Rattle.clone_stream.specs.Streams.{IsStreamText, largest_stream}
use Rattle.evidence.specs.Breaks.{IsBreak}
use Rattle.evidence.specs.Dossiers.{IsDossierText}
use Rattle.evidence.specs.Finding.{finding_of}
use Rattle.evidence.specs.declared.dossiers.Dossier.{Dossier}
use Rattle.evidence.specs.declared.findings.Finding.{Finding}
use Rattle.mirror.specs.Mirrors.{Compares}
use Rattle.mirror.specs.declared.mirror_faults.MirrorFault.{MirrorFault}
use Rattle.mirror.specs.declared.mirror_faults.MirrorFault.TheVariants.{Stream, BrokenKept, BrokenOffered}
use Rattle.mirror.specs.declared.mirror_faults.MirrorFault.TheVariants.{Failed, Memory}
use Rattle.mirror.specs.declared.offers.Offer.{Offer}
use Rattle.commands_mirror.specs.Checking.{largest_dossier}
use Rattle.commands_mirror.specs.Making.{IsFirstMissing}
use Rattle.commands_mirror.specs.declared.checking_evidence.CheckFault.{CheckFault}
use Rattle.commands_mirror.specs.declared.checking_evidence.CheckFault.TheVariants as check
use Rattle.commands_mirror.specs.declared.making_evidence.MakeFault.{MakeFault}
use Rattle.commands_mirror.specs.declared.making_evidence.MakeFault.TheVariants as make
use Rattle.commands_mirror.specs.declared.offering.OfferFault.{OfferFault}
use Rattle.commands_mirror.specs.declared.offering.OfferFault.TheVariants.{Refused, SinkFailed}

-- ---- `mirror`
-- the bytes are this repository's stream
pub record Spells (bytes : List ℕ) (offered : Repository) : Type 0 where
  pub short : length bytes ≤ largest_stream
  pub text : IsStreamText offered bytes

-- what is offered is this to what is held
pub record IsAnswered (was : Repository) (bytes : List ℕ) (offer : Offer) : Type 0 where
  pub offered : Repository
  pub spells : Spells bytes offered
  pub compares : Compares was offered offer

-- something is offered, and the log that is held breaks
pub record IsBrokenHere (was : Repository) (bytes : List ℕ) (id : List ℕ) : Type 0 where
  pub offered : Repository
  pub spells : Spells bytes offered
  pub breaks : IsBreakOf was id

-- the log that is held stands, and the offered one breaks
pub record IsBrokenThere (was : Repository) (bytes : List ℕ) (id : List ℕ) : Type 0 where
  pub offered : Repository
  pub spells : Spells bytes offered
  pub stands : (ids : List (List ℕ)) × IsLogOf was ids
  pub breaks : IsBreakOf offered id

abbrev pub OfferComes : Repository → List ℕ → MirrorFault → Type 0
OfferComes was bytes (Stream fault) = Decides bytes fault
OfferComes was bytes (BrokenKept id) = IsBrokenHere was bytes id
OfferComes was bytes (BrokenOffered id) = IsBrokenThere was bytes id
OfferComes was bytes Failed = ⊥
OfferComes was bytes Memory = ⊥

-- what `mirror` comes to
abbrev pub MirrorComes : Repository → List ℕ → Result Offer OfferFault → Type 0
MirrorComes was bytes (Ok offer) = IsAnswered was bytes offer
MirrorComes was bytes (Err (Refused fault)) = OfferComes was bytes fault
MirrorComes was bytes (Err SinkFailed) = ⊥

-- ---- `evidence-make`
abbrev pub HasOne : Repository → List ℕ → Type 0
HasOne was id = (pair : Pair) × HasObject was id pair

-- what `evidence-make` comes to
abbrev pub MakeComes : Repository → List ℕ → List ℕ → Result (Unit {0}) MakeFault → Type 0
MakeComes was left right (Ok done) = HasOne was left × HasOne was right
MakeComes was left right (Err (make.NoObject id)) = IsFirstMissing was left right id
MakeComes was left right (Err make.KeeperFailed) = ⊥
MakeComes was left right (Err make.SinkFailed) = ⊥
MakeComes was left right (Err make.Memory) = ⊥

-- ---- `evidence-check`
-- the bytes are a dossier that shows this
pub record IsShown (bytes : List ℕ) (finding : Finding) : Type 0 where
  pub dossier : Dossier
  pub short : length bytes ≤ largest_dossier
  pub text : IsDossierText dossier bytes
  pub is : finding ≡ finding_of dossier

-- what `evidence-check` comes to
abbrev pub CheckComes : List ℕ → Result Finding CheckFault → Type 0
CheckComes bytes (Ok finding) = IsShown bytes finding
CheckComes bytes (Err check.TooLong) = largest_dossier < length bytes
CheckComes bytes (Err (check.Malformed at)) = (length bytes ≤ largest_dossier) × IsBreak bytes at
CheckComes bytes (Err check.SourceFailed) = ⊥
CheckComes bytes (Err check.SinkFailed) = ⊥
CheckComes bytes (Err check.Memory) = ⊥
