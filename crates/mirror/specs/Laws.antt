-- What the laws of this crate say of an offer.
use Rattle.std.specs.Prelude.{◌≡◌, ◌≤◌, ℕ, List}
use Rattle.git_object.specs.Ids.{IsId}
use Rattle.git_object.specs.Names.{IsRefName}
use Rattle.git_object.specs.Repository.{Repository}
use Rattle.mirror.specs.Mirrors.{Compares, Makes}
use Rattle.mirror.specs.Names.{fork_name}
use Rattle.mirror.specs.Offering.{IsOffering}
use Rattle.mirror.specs.declared.offers.Offer.{Offer}

-- of two logs one is one of the four things to the other, and one alone
pub record OneOffering : Type 0 where
  pub one : (kept offered : List (List ℕ)) (a b : Offer) → IsOffering kept offered a → IsOffering kept offered b
      → a ≡ b
  pub some : (kept offered : List (List ℕ)) → (a : Offer) × IsOffering kept offered a

-- of a kept repository and an offered one one answer comes, and one repository
pub record OneMaking : Type 0 where
  pub answer : (kept offered : Repository) (a b : Offer) → Compares kept offered a → Compares kept offered b → a ≡ b
  pub made : (kept offered now also : Repository) (a b : Offer) → Makes offered a kept now → Makes offered b kept also
      → now ≡ also

-- an entry of another past has a name for its reference, whatever its number and its id
abbrev pub ForksAreNamed : Type 0
ForksAreNamed = (number : ℕ) (id : List ℕ) → number ≤ 1000000 → IsId id → IsRefName (fork_name number id)
