-- What is reached by names, to read the walk aloud.
use Rattle.std.specs.Prelude.{◌≡◌, ◌≢◌, ◌↔◌, ℕ, true, List}
use Rattle.std.specs.List.{IsDistinct}
use Rattle.std.specs.Str.{bytes_eq}
use Rattle.git_object.specs.Ids.{zeros}
use Rattle.git_object.specs.Repository.{Repository}
use Rattle.pushes.specs.Needing.{has}
use Rattle.pushes.specs.Reaching.{AreReached, names_kept}

-- the id itself, and each that the object of one that is reached names; zeros never
pub data Reached (names : List ℕ → List (List ℕ)) (root : List ℕ) : List ℕ → Type 0 where
  Itself : root ≢ zeros → Reached names root root
  Named : (id other : List ℕ) → Reached names root id → has (names id) other ≡ true → other ≢ zeros
      → Reached names root other

-- the id is reached through what the repository keeps
abbrev pub IsReached : Repository → List ℕ → List ℕ → Type 0
IsReached r root id = Reached (names_kept r) root id

-- these are the ids that are reached from the target and not from the one before, each once
pub record AreReachedApart (r : Repository) (before target : List ℕ) (ids : List (List ℕ)) : Type 0 where
  pub all : (id : List ℕ) → (has ids id ≡ true) ↔ (IsReached r target id × (IsReached r before id → ⊥))
  pub once : IsDistinct bytes_eq ids

-- the walk has them
abbrev pub WalkReaches : Type 0
WalkReaches = (r : Repository) (before target : List ℕ) (ids : List (List ℕ)) → AreReached r before target ids
    → AreReachedApart r before target ids
