-- A list of objects as two that lie between each other, which are kept one after the other.
use Rattle.std.specs.Prelude.{◌≡◌, Bool, true, false, List, [], ◌∷◌, None}
use Rattle.std.specs.FinMap.{get, insert}
use Rattle.octets.specs.BytesMap.{BytesMap}
use Rattle.git_object.specs.Objects.{Pair, pair_id}

-- the objects at each second place: from the first on, or from the second
abbrev pub half : Bool → List Pair → List Pair
half first [] = []
half true (pair ∷ pairs) = pair ∷ half false pairs
half false (pair ∷ pairs) = half true pairs

-- nothing is kept at an object's id when it comes to be kept
abbrev pub AreNew : List Pair → BytesMap Pair → Type 0
AreNew [] objects = Unit {0}
AreNew (pair ∷ pairs) objects = (get objects (pair_id pair) ≡ None) × AreNew pairs (insert objects (pair_id pair) pair)
