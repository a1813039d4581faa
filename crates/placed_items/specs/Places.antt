-- The place of an id in a list of things that stand under ids.
use Rattle.std.specs.Prelude.{◌≡◌, ◌+◌, ◌<◌, ℕ, Bool, false, List, [], ◌∷◌, Option, Some, None, if◌then◌else◌}
use Rattle.std.specs.Prelude.{slice_get}
use Rattle.std.specs.List.{list_any}
use Rattle.std.specs.Option.{option_map}
use Rattle.std.specs.Str.{bytes_eq}

-- some item stands under the id
abbrev pub has_id : {T : Type 0} → (T → List ℕ) → List T → List ℕ → Bool
has_id id items wanted = list_any (λ item. bytes_eq (id item) wanted) items

-- the first place of an id, counted from 0
abbrev pub place_of : {T : Type 0} → (T → List ℕ) → List T → List ℕ → Option ℕ
place_of id [] wanted = None
place_of id (item ∷ items) wanted =
    if bytes_eq (id item) wanted then Some 0 else option_map (λ n. n + 1) (place_of id items wanted)

-- the place of an id once an item is added at a place that may stand under it: what it was, or else that one
abbrev pub placed_last : Option ℕ → Bool → ℕ → Option ℕ
placed_last (Some n) is_its at = Some n
placed_last None is_its at = if is_its then Some at else None

-- ---- what holds of it

-- at the place of an id stands an item of it, and none before it; and where it has no place no item stands under it
pub record FirstPlace {T : Type 0} (id : T → List ℕ) : Type 0 where
  pub there : (items : List T) (wanted : List ℕ) (n : ℕ) → place_of id items wanted ≡ Some n
      → option_map id (slice_get items n) ≡ Some wanted
  pub first : (items : List T) (wanted : List ℕ) (n m : ℕ) → place_of id items wanted ≡ Some n → m < n
      → option_map id (slice_get items m) ≡ Some wanted → ⊥
  pub none : (items : List T) (wanted : List ℕ) → place_of id items wanted ≡ None
      → has_id id items wanted ≡ false
