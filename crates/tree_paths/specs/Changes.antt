-- What differs between two states, and the reads that this is worth.
use Rattle.std.specs.Prelude.{◌≡◌, ◌≢◌, ◌⊎◌, ◌↔◌, ◌+◌, ◌∷◌, [], ℕ, Bool, true, cond, IsTrue, List}
use Rattle.std.specs.FinMap.{get}
use Rattle.std.specs.List.{AllByRecursion, list_any}
use Rattle.std.specs.Str.{bytes_eq}
use Rattle.std.specs.declared.cmp.Ordering.TheVariants.{Less}
use Rattle.octets.specs.BytesMap.{BytesMap, by_bytes}
use Rattle.tree_paths.specs.Pairings.{same_visit, visits_in}
use Rattle.tree_paths.specs.States.{Ended, Faulty, PathValue, dirs_at, is_sound, map_at, steps_in, tree_at}
use Rattle.tree_paths.specs.Walks.{Step}
use Rattle.tree_paths.specs.declared.states.Comparison.{Comparison}
use Rattle.tree_paths.specs.declared.states.Comparison.TheVariants as comparison

-- each path is before all later ones in the order of bytes
abbrev pub AreRising : List (List ℕ) → Type 0
AreRising [] = Unit {0}
AreRising (p ∷ ps) = AllByRecursion (λ q. by_bytes p q ≡ Less) ps × AreRising ps

abbrev pub has_path : List (List ℕ) → List ℕ → Bool
has_path paths path = list_any (λ p. bytes_eq p path) paths

-- exactly the paths at which two maps differ, in the order of their bytes
pub record AreChanged (from to : BytesMap PathValue) (paths : List (List ℕ)) : Type 0 where
  pub rising : AreRising paths
  pub changed : (path : List ℕ) → IsTrue (has_path paths path) ↔ (get from path ≢ get to path)

-- neither walk is bad: the trees, and the paths whose values differ
pub record IsChange (s t : Ended) (from to : List ℕ) (paths : List (List ℕ)) : Type 0 where
  pub from_sound : is_sound s ≡ true
  pub to_sound : is_sound t ≡ true
  pub from_is : from ≡ tree_at s
  pub to_is : to ≡ tree_at t
  pub changed : AreChanged (map_at s) (map_at t) paths

-- of two bad walks the first is named
abbrev pub IsComparison : Ended → Ended → Comparison → Type 0
IsComparison s t (comparison.Broken id) = (s ≡ Faulty id) ⊎ ((is_sound s ≡ true) × (t ≡ Faulty id))
IsComparison s t (comparison.Changed from to paths) = IsChange s t from to paths

-- the visits of the first walk for which the second has none at the same place with the same id
abbrev pub own : List Step → List Step → ℕ
own [] ys = 0
own (x ∷ xs) ys = cond (list_any (same_visit x) ys) 0 (visits_in x) + own xs ys

-- the reads that the trees of two targets are worth: those of the second, and the first's own
abbrev pub shared_reads : Ended → Ended → ℕ
shared_reads s t = dirs_at t + own (steps_in s) (steps_in t)

abbrev pub IfChanged : Comparison → Type 0 → Type 0
IfChanged (comparison.Broken id) P = Unit {0}
IfChanged (comparison.Changed from to paths) P = P
