-- Records that stand in front of a text, by rising keys.
use Rattle.std.specs.Prelude.{◌≡◌, ◌++◌, ◌∷◌, [], ℕ, List, Option, Some, None, true}
use Rattle.std.specs.Bool.{⊤}
use Rattle.std.specs.List.{AllByRecursion, flat_map}
use Rattle.std.specs.Ordering.{is_lt}
use Rattle.std.specs.FinMap.Entries.{is_sorted}
use Rattle.octets.specs.BytesMap.{by_bytes}

-- the last of a list
abbrev pub last_of : {A : Type 0} → List A → Option A
last_of [] = None
last_of (x ∷ []) = Some x
last_of (x ∷ y ∷ ys) = last_of (y ∷ ys)

-- the key is greater than the last one
abbrev pub ComesAfter : Option (List ℕ) → List ℕ → Type 0
ComesAfter None key = ⊤
ComesAfter (Some last) key = is_lt (by_bytes last key) ≡ true

-- the text begins with the records of these entries, by rising keys, and goes on with the rest
pub record IsFront {X : Type 0} (record_of : List ℕ × X → List ℕ) (Is : List ℕ × X → Type 0) (es : List (List ℕ × X))
    (text rest : List ℕ) : Type 0 where
  pub each : AllByRecursion Is es
  pub rising : is_sorted by_bytes es ≡ true
  pub front : text ≡ flat_map record_of es ++ rest
