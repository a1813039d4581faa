-- Files in their order, of which no two have one name.
use Rattle.std.specs.Prelude.{◌≡◌, ◌≢◌, ◌⊎◌, ◌∷◌, ℕ, List, codes}
use Rattle.std.specs.List.{AllByRecursion}
use Rattle.std.specs.List.Sorted.{IsStrictlySortedBy}
use Rattle.octets.specs.BytesMap.{by_bytes}

-- names that rise strictly by their bytes, none of them the top file's
pub record AreBelowTop (names : List (List ℕ)) : Type 0 where
  pub rising : IsStrictlySortedBy by_bytes names
  pub others : AllByRecursion (λ name. name ≢ codes "targets") names

-- the top file's name first, where it is there, and then those of the others
pub record AreInOrder (names : List (List ℕ)) : Type 0 where
  pub rest : List (List ℕ)
  pub below : AreBelowTop rest
  pub first : (names ≡ rest) ⊎ (names ≡ codes "targets" ∷ rest)
