-- A repository that has what another has, and changes that make one.
use Rattle.std.specs.Prelude.{◌≡◌, ◌≤◌, ℕ, List, length, Option, Some}
use Rattle.std.specs.List.{AllByRecursion}
use Rattle.git_object.specs.Objects.{Pair, pair_id}
use Rattle.git_object.specs.Repository.{HasObject, Repository, largest_body, object_at}

-- what is there in the first is there in the second, and is the same
abbrev pub Keeps : {A : Type 0} → Option A → Option A → Type 0
Keeps {A} few more = (a : A) → few ≡ Some a → more ≡ Some a

-- the second has each object that the first has, whatever its references are
abbrev pub Larger : Repository → Repository → Type 0
Larger small large = (id : List ℕ) → Keeps (object_at small id) (object_at large id)

-- where an object is kept under this one's id, it is this one
abbrev pub ClashesNowhere : Repository → Pair → Type 0
ClashesNowhere r pair = (id : List ℕ) (kept : Pair) → object_at r id ≡ Some kept → pair_id pair ≡ id → pair ≡ kept

-- none of these would be kept in the place of another object
abbrev pub NoneClashes : List Pair → Repository → Type 0
NoneClashes pairs r = AllByRecursion (ClashesNowhere r) pairs

-- two of these that have one id are one
abbrev pub NoneClashAmong : List Pair → Type 0
NoneClashAmong pairs = AllByRecursion
    (λ pair. AllByRecursion (λ other. pair_id other ≡ pair_id pair → other ≡ pair) pairs) pairs

-- objects that can be kept beside those of a repository: each within the limit, and none with the id of another, there
-- or
-- among them
pub record AreNew (pairs : List Pair) (r : Repository) : Type 0 where
  pub small : AllByRecursion (λ pair. length pair.body ≤ largest_body) pairs
  pub kept : NoneClashes pairs r
  pub among : NoneClashAmong pairs

-- each of these is there, under its own id
abbrev pub HasAll : Repository → List Pair → Type 0
HasAll r pairs = AllByRecursion (λ pair. HasObject r (pair_id pair) pair) pairs
