-- What is answered of putting a file.
use Rattle.std.specs.Prelude.{◌≡◌, ◌++◌, ℕ, List, Ok, Err}
use Rattle.git_object.specs.Objects.{Pair}
use Rattle.approvals.specs.Files.{Putting}
use Rattle.approvals.specs.declared.putting.Placed.{Placed}
use Rattle.approvals.specs.declared.putting.Placed.TheVariants.{InWay, Made}

-- new trees were added to the objects, and nothing else
pub record IsMade (put : Putting) (before after : List Pair) (root : List ℕ) : Type 0 where
  pub made : List Pair
  pub put_is : put ≡ Ok (record { objects = made; root = root })
  pub added : after ≡ before ++ made

abbrev pub IsPlaced : Placed → Putting → List Pair → List Pair → Type 0
IsPlaced (Made root) put before after = IsMade put before after root
IsPlaced (InWay id) put before after = put ≡ Err id

abbrev pub IfMade : Placed → Type 0 → Type 0
IfMade (Made root) P = P
IfMade (InWay id) P = Unit {0}
