-- The laws of these commands: one outcome at most, and what is told is that one.
use Rattle.std.specs.Prelude.{◌≡◌, ◌⊎◌, ℕ, List, Option, Some, Result}
use Rattle.git_object.specs.Repository.{Repository}
use Rattle.keeper_api.specs.declared.keepers.Keeper as keeper
use Rattle.worlds.specs.Endings.{IsStopped}
use Rattle.evidence.specs.declared.findings.Finding.{Finding}
use Rattle.mirror.specs.declared.offers.Offer.{Offer}
use Rattle.commands_mirror.specs.Checking.{CheckEnds, check_ending}
use Rattle.commands_mirror.specs.Contents.{CheckComes, MakeComes, MirrorComes}
use Rattle.commands_mirror.specs.Making.{MakeEnds, make_ending}
use Rattle.commands_mirror.specs.Offering.{MirrorEnds, mirror_ending}
use Rattle.commands_mirror.specs.declared.checking_evidence.CheckFault.{CheckFault}
use Rattle.commands_mirror.specs.declared.making_evidence.MakeFault.{MakeFault}
use Rattle.commands_mirror.specs.declared.offering.OfferFault.{OfferFault}

-- each comes to one outcome at most
pub record OneOfMirror : Type 0 where
  pub mirror : (was : Repository) (bytes : List ℕ) (a b : Result Offer OfferFault)
      → MirrorComes was bytes a → MirrorComes was bytes b → a ≡ b
  pub make : (was : Repository) (left right : List ℕ) (a b : Result (Unit {0}) MakeFault)
      → MakeComes was left right a → MakeComes was left right b → a ≡ b
  pub check : (bytes : List ℕ) (a b : Result Finding CheckFault) → CheckComes bytes a → CheckComes bytes b → a ≡ b

-- what ended is what the command comes to, or it stopped
pub record TellsOfMirror {R : Type 0} (keeper_of : keeper.Ghosts R) : Type 0 where
  pub mirror : (bytes : List ℕ) (left_now : Option (List ℕ)) (was now : Repository) (old new : R)
      (printed printed_now : Option (List ℕ)) (outcome : Result Offer OfferFault)
      → keeper_of.content old ≡ Some was → keeper_of.content new ≡ Some now
      → MirrorEnds keeper_of (Some bytes) left_now old new printed printed_now outcome
      → MirrorComes was bytes outcome ⊎ IsStopped (mirror_ending outcome)
  pub make : (public left right : List ℕ) (was : Repository) (printed printed_now : Option (List ℕ))
      (outcome : Result (Unit {0}) MakeFault)
      → MakeEnds public left right (Some was) printed printed_now outcome
      → MakeComes was left right outcome ⊎ IsStopped (make_ending outcome)
  pub check : (bytes : List ℕ) (left_now printed printed_now : Option (List ℕ)) (outcome : Result Finding CheckFault)
      → CheckEnds (Some bytes) left_now printed printed_now outcome
      → CheckComes bytes outcome ⊎ IsStopped (check_ending outcome)
