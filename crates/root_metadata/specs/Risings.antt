-- Lists that rise strictly in the order of their items' keys.
use Rattle.std.specs.Prelude.{ℕ, Bool, true, List, [], ◌∷◌, map}
use Rattle.std.specs.List.{list_any}
use Rattle.std.specs.List.Sorted.{IsStrictlySortedBy}
use Rattle.std.specs.Ordering.{is_lt}
use Rattle.std.specs.Str.{bytes_eq}
use Rattle.octets.specs.BytesMap.{by_bytes}

-- each key is less than those after it
abbrev pub IsRising : {T : Type 0} → (T → List ℕ) → List T → Type 0
IsRising key items = IsStrictlySortedBy by_bytes (map key items)

-- some item has the key
abbrev pub has_key : {T : Type 0} → (T → List ℕ) → List T → List ℕ → Bool
has_key key items wanted = list_any (λ item. bytes_eq (key item) wanted) items

-- the key is greater than the last item's, or there is no item
abbrev pub is_next : {T : Type 0} → (T → List ℕ) → List T → List ℕ → Bool
is_next key [] next = true
is_next key (x ∷ []) next = is_lt (by_bytes (key x) next)
is_next key (x ∷ y ∷ items) next = is_next key (y ∷ items) next
