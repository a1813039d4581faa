-- Eight pieces that were made side by side.
use Rattle.std.specs.Prelude.{◌≡◌, ℕ, ◌+◌, ◌<◌, List, [], slice_index_or}

-- the list holds z first, …, z (first + 7)
pub record ArePieces (z : ℕ → List ℕ) (first : ℕ) (pieces : List (List ℕ)) : Type 0 where
  pub at : (k : ℕ) → k < 8 → slice_index_or pieces k [] ≡ z (first + k)
