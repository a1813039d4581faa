-- Chains of one leaf on their way, each at a step of its own.
use Rattle.std.specs.Prelude.{◌≡◌, ℕ, ◌-◌, ◌<◌, ◌≤◌, List, [], length, slice_index, slice_index_or}
use Rattle.lmots.specs.Chain.{steps}

-- room for the chains of any type, of which none stands past its end
pub record IsTable (at to : List ℕ) (values : List (List ℕ)) : Type 0 where
  pub places : length at ≡ 265
  pub ends : length to ≡ 265
  pub held : length values ≡ 265
  pub low : (c : ℕ) → c < 265 → slice_index at c ≤ slice_index to c

-- each of the first n chains comes to z of its number where it is walked to its end
pub record AreOnWay (i : List ℕ) (q n : ℕ) (z : ℕ → List ℕ) (at to : List ℕ) (values : List (List ℕ)) : Type 0 where
  pub goes : (c : ℕ) → c < n → steps i q c (slice_index at c) (slice_index to c - slice_index at c)
      (slice_index_or values c []) ≡ z c

-- places for eight chains, none behind where its chain stands and none past the chain's end
pub record ArePlaces (at to lanes places : List ℕ) : Type 0 where
  pub reached : (k : ℕ) → k < 8 → slice_index at (slice_index lanes k) ≤ slice_index places k
  pub within : (k : ℕ) → k < 8 → slice_index places k ≤ slice_index to (slice_index lanes k)
