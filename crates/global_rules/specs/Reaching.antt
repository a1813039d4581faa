-- What is reached from a commit by parents, to read the order of ancestors aloud.
use Rattle.std.specs.Prelude.{◌≡◌, ◌↔◌, ℕ, true, List, Some}
use Rattle.std.specs.List.{IsDistinct}
use Rattle.std.specs.Str.{bytes_eq}
use Rattle.global_rules.specs.Order.{Parents, ancestors, has_id, is_commit, met}

-- the commit itself, and each that a commit which is reached names as a parent
pub data Reached (parents : Parents) (root : List ℕ) : List ℕ → Type 0 where
  Itself : Reached parents root root
  Parent : (id parent : List ℕ) (ids : List (List ℕ)) → Reached parents root id → parents id ≡ Some ids
      → has_id ids parent ≡ true → Reached parents root parent

-- the order has the commits that are reached, and each once
pub record IsOrderOfReached (parents : Parents) (root : List ℕ) : Type 0 where
  pub all : (id : List ℕ) → ((n : ℕ) × (has_id (ancestors parents root n) id ≡ true))
      ↔ (Reached parents root id × (is_commit parents id ≡ true))
  pub once : (n : ℕ) → IsDistinct bytes_eq (met parents root n)
