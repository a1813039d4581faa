-- How the commands on evidence end where something is not read.
use Rattle.std.proofs.Common.{ℕ, List, inl, inr, refl}
use Rattle.std.specs.Prelude.{Option, Err}
use Rattle.octets.specs.Content.{Stays}
use Rattle.git_object.specs.Objects.{Pair}
use Rattle.git_object.specs.Repository.{Repository}
use Rattle.commands_mirror.specs.Checking.{CheckEnds, RefusesRead}
use Rattle.commands_mirror.specs.Making.{AreKept, BodiesEnd, BodyEnds, IsKept, MakeEnds}
use Rattle.commands_mirror.specs.declared.checking_evidence.CheckFault.{CheckFault}
use Rattle.commands_mirror.specs.declared.checking_evidence.CheckFault.TheVariants as check
use Rattle.commands_mirror.specs.declared.making_evidence.MakeFault.{MakeFault}
use Rattle.commands_mirror.specs.declared.making_evidence.MakeFault.TheVariants as make

-- the first object is not there
pub first_missing : (held now : Option Repository) (left right : List ℕ) (fault : MakeFault) → Stays held now → BodyEnds held left (Err fault) → BodiesEnd now left right (Err fault)
first_missing held now left right (make.NoObject id) stays ends = λ r told. inl (ends.0, ends.1 r (stays r told))
first_missing held now left right make.KeeperFailed stays ends = tt
first_missing held now left right make.SinkFailed stays ends = absurd ends
first_missing held now left right make.Memory stays ends = tt

-- or the second
pub second_missing : (held now : Option Repository) (left right : List ℕ) (first : Pair) (fault : MakeFault) → Stays held now → IsKept held left first → BodyEnds now right (Err fault) → BodiesEnd now left right (Err fault)
second_missing held now left right first (make.NoObject id) stays kept ends = λ r told. inr (ends.0, (first, kept.has r (stays r told)), ends.1 r told)
second_missing held now left right first make.KeeperFailed stays kept ends = tt
second_missing held now left right first make.SinkFailed stays kept ends = absurd ends
second_missing held now left right first make.Memory stays kept ends = tt

pub both_kept : (held now : Option Repository) (left right : List ℕ) (first second : Pair) → Stays held now → IsKept held left first → IsKept now right second → AreKept now left right first second
both_kept held now left right first second stays kept also = record {
  is_left = record { is = kept.is; has = λ r told. kept.has r (stays r told) };
  is_right = also;
}

pub unmade_ends : (public left right : List ℕ) (held : Option Repository) (printed : Option (List ℕ)) (fault : MakeFault) → BodiesEnd held left right (Err fault) → MakeEnds public left right held printed printed (Err fault)
unmade_ends public left right held printed (make.NoObject id) ends = (ends, refl)
unmade_ends public left right held printed make.KeeperFailed ends = refl
unmade_ends public left right held printed make.SinkFailed ends = absurd ends
unmade_ends public left right held printed make.Memory ends = refl

pub unread_ends : (left left_now printed : Option (List ℕ)) (fault : CheckFault) → RefusesRead left left_now fault → CheckEnds left left_now printed printed (Err fault)
unread_ends left left_now printed check.TooLong ends = (ends, refl)
unread_ends left left_now printed (check.Malformed at) ends = (ends, refl)
unread_ends left left_now printed check.SourceFailed ends = refl
unread_ends left left_now printed check.SinkFailed ends = absurd ends
unread_ends left left_now printed check.Memory ends = refl
