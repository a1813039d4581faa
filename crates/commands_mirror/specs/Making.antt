-- What each outcome of `evidence-make` means.
use Rattle.std.specs.Prelude.{◌≡◌, ◌⊎◌, ℕ, Bool, true, false, List, Option, Some, Result, Ok, Err}
use Rattle.octets.specs.Content.{GainsPart, with_end}
use Rattle.git_object.specs.Objects.{Pair}
use Rattle.git_object.specs.Repository.{HasObject, IsObject, Repository}
use Rattle.worlds.specs.declared.ending.Ending.{Ending}
use Rattle.worlds.specs.declared.ending.Ending.TheVariants.{Done, Refused}
use Rattle.worlds.specs.declared.ending.Part.TheVariants as part
use Rattle.worlds.specs.declared.ending.Refusal.TheVariants as refusal
use Rattle.evidence.specs.Dossiers.{IsDossierText}
use Rattle.evidence.specs.declared.dossiers.Dossier.{Dossier}
use Rattle.commands_mirror.specs.declared.making_evidence.MakeFault.{MakeFault}
use Rattle.commands_mirror.specs.declared.making_evidence.MakeFault.TheVariants.{NoObject, KeeperFailed}
use Rattle.commands_mirror.specs.declared.making_evidence.MakeFault.TheVariants.{SinkFailed, Memory}

-- how the program ends
abbrev pub make_ending : Result (Unit {0}) MakeFault → Ending
make_ending (Ok done) = Done
make_ending (Err (NoObject id)) = Refused (refusal.Object id)
make_ending (Err KeeperFailed) = Refused (refusal.Fault part.Keeper)
make_ending (Err SinkFailed) = Refused (refusal.Fault part.Sink)
make_ending (Err Memory) = Refused refusal.Memory

-- the fault that the store counts
abbrev pub make_failed : MakeFault → Bool
make_failed (NoObject id) = false
make_failed KeeperFailed = true
make_failed SinkFailed = false
make_failed Memory = false

-- no object of this id is there
abbrev pub HasNone : Repository → List ℕ → Type 0
HasNone r id = (pair : Pair) → HasObject r id pair → ⊥

-- ---- the objects, where the store tells what it holds
-- the object of an id
pub record IsKept (held : Option Repository) (id : List ℕ) (object : Pair) : Type 0 where
  pub is : IsObject id object
  pub has : (r : Repository) → held ≡ Some r → HasObject r id object

abbrev pub BodyEnds : Option Repository → List ℕ → Result Pair MakeFault → Type 0
BodyEnds held id (Ok object) = IsKept held id object
BodyEnds held id (Err (NoObject named)) = (named ≡ id) × ((r : Repository) → held ≡ Some r → HasNone r id)
BodyEnds held id (Err KeeperFailed) = Unit {0}
BodyEnds held id (Err SinkFailed) = ⊥
BodyEnds held id (Err Memory) = Unit {0}

-- the first of two ids under which no object is there
abbrev pub IsFirstMissing : Repository → List ℕ → List ℕ → List ℕ → Type 0
IsFirstMissing r left right named =
    ((named ≡ left) × HasNone r left)
    ⊎ ((named ≡ right) × ((pair : Pair) × HasObject r left pair) × HasNone r right)

-- the objects of both ids
pub record AreKept (held : Option Repository) (left right : List ℕ) (first second : Pair) : Type 0 where
  pub is_left : IsKept held left first
  pub is_right : IsKept held right second

abbrev pub BodiesEnd : Option Repository → List ℕ → List ℕ → Result (Pair × Pair) MakeFault → Type 0
BodiesEnd held left right (Ok objects) = AreKept held left right objects.0 objects.1
BodiesEnd held left right (Err (NoObject named)) = (r : Repository) → held ≡ Some r → IsFirstMissing r left right named
BodiesEnd held left right (Err KeeperFailed) = Unit {0}
BodiesEnd held left right (Err SinkFailed) = ⊥
BodiesEnd held left right (Err Memory) = Unit {0}

-- ---- the dossier
abbrev pub dossier_of : List ℕ → Pair → Pair → Dossier
dossier_of public left right = record { public = public; left = left.body; right = right.body }

-- the text of the dossier of a key and of two kept objects
pub record IsMade (public left right : List ℕ) (held : Option Repository) (text : List ℕ) : Type 0 where
  pub first : Pair
  pub second : Pair
  pub kept : AreKept held left right first second
  pub spelled : IsDossierText (dossier_of public first second) text

-- it was printed, or this is why not, and a front of it was where the sink failed
abbrev pub MakeEnds : List ℕ → List ℕ → List ℕ → Option Repository → Option (List ℕ) → Option (List ℕ)
    → Result (Unit {0}) MakeFault → Type 0
MakeEnds public left right held printed printed_now (Ok done) =
    (text : List ℕ) × IsMade public left right held text × (printed_now ≡ with_end printed text)
MakeEnds public left right held printed printed_now (Err (NoObject named)) =
    ((r : Repository) → held ≡ Some r → IsFirstMissing r left right named) × (printed_now ≡ printed)
MakeEnds public left right held printed printed_now (Err KeeperFailed) = printed_now ≡ printed
MakeEnds public left right held printed printed_now (Err SinkFailed) =
    (text : List ℕ) × IsMade public left right held text × GainsPart printed printed_now text
MakeEnds public left right held printed printed_now (Err Memory) = printed_now ≡ printed
