-- The references that a mirror keeps for itself.
use Rattle.std.specs.Prelude.{◌++◌, ◌∷◌, ℕ, Bool, List, codes, decimal}
use Rattle.std.specs.Bool.{nat_eq}
use Rattle.std.specs.List.{starts_with}
use Rattle.hex.specs.Hex.{encode_lower}

-- the mirror's own references, which no offer brings
abbrev pub is_own : List ℕ → Bool
is_own name = starts_with nat_eq name (codes "refs/mirror/")

-- the reference to an entry of this number and id that was offered in another past
abbrev pub fork_name : ℕ → List ℕ → List ℕ
fork_name number id = codes "refs/mirror/fork/" ++ (decimal number ++ 47 ∷ encode_lower id)
