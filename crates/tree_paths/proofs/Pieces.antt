-- What one walk, or one subtree at one place of both, adds to the changed paths and to the reads.
use Rattle.std.proofs.Common.{◌≡◌, ℕ, ◌+◌, ◌==◌, ◌&&◌, Bool, true, false, cond, List, [], ◌∷◌, ◌++◌, length, refl, ap, ◌∙◌, arith}
use Rattle.std.specs.Str.{bytes_eq}
use Rattle.std.proofs.lemmas.Slice.Eq.{bytes_eq-Decides}
use Rattle.tree_paths.specs.Readings.{Trees}
use Rattle.tree_paths.specs.Walks.{Leaf, Step, Visit, goes_on, has_room, is_open, judge, one_dir, one_path}
use Rattle.tree_paths.specs.Pairings.{changes, cost, only_to, merge, same_value, visits_in, mode_number}
use Rattle.tree_paths.specs.States.{PathValue}
use Rattle.tree_paths.specs.Listings.{leaves, visits}
use Rattle.tree_paths.specs.declared.counts.Counts.{Counts}
use Rattle.tree_paths.specs.declared.counts.Walked.TheVariants.{Broken, Counted}
use Rattle.tree_paths.proofs.Merging.{merge_from, merge_twice, only_from, twice}

same_bytes : (a : List ℕ) → bytes_eq a a ≡ true
same_bytes a = (bytes_eq-Decides a a).1 refl

same_number : (n : ℕ) → (n == n) ≡ true
same_number n = grind arith

pub value_itself : (v : PathValue) → same_value v v ≡ true
value_itself v = rw (same_number (mode_number v.0), same_bytes v.1) refl

-- ---- one walk alone

from_changes : (xs : List Step) → changes (only_from xs) ≡ leaves xs
from_changes [] = refl
from_changes (Visit left front id ∷ xs) = from_changes xs
from_changes (Leaf holder path mode id ∷ xs) = ap (λ (ps : List (List ℕ)). path ∷ ps) (from_changes xs)

to_changes : (xs : List Step) → changes (only_to xs) ≡ leaves xs
to_changes [] = refl
to_changes (Visit left front id ∷ xs) = to_changes xs
to_changes (Leaf holder path mode id ∷ xs) = ap (λ (ps : List (List ℕ)). path ∷ ps) (to_changes xs)

from_cost : (xs : List Step) → cost (only_from xs) ≡ visits xs
from_cost [] = refl
from_cost (x ∷ xs) = ap (λ (n : ℕ). visits_in x + n) (from_cost xs)

to_cost : (xs : List Step) → cost (only_to xs) ≡ visits xs
to_cost [] = refl
to_cost (x ∷ xs) = ap (λ (n : ℕ). visits_in x + n) (to_cost xs)

pub alone_from : (xs : List Step) → (changes (merge xs []) ≡ leaves xs) × (cost (merge xs []) ≡ visits xs)
alone_from xs = (ap changes (merge_from xs) ∙ from_changes xs, ap cost (merge_from xs) ∙ from_cost xs)

pub alone_to : (xs : List Step) → (changes (merge [] xs) ≡ leaves xs) × (cost (merge [] xs) ≡ visits xs)
alone_to xs = (to_changes xs, to_cost xs)

-- ---- one subtree in both

twice_changes : (xs : List Step) → changes (twice xs) ≡ []
twice_changes [] = refl
twice_changes (Visit left front id ∷ xs) = twice_changes xs
twice_changes (Leaf holder path mode id ∷ xs) =
    ap (λ (b : Bool). cond b [] (path ∷ []) ++ changes (twice xs)) (value_itself (mode, id)) ∙ twice_changes xs

twice_cost : (xs : List Step) → cost (twice xs) ≡ visits xs
twice_cost [] = refl
twice_cost (Visit left front id ∷ xs) =
    ap (λ (b : Bool). cond b 0 1 + 1 + cost (twice xs)) (ap (λ (b : Bool). b && bytes_eq id id) (same_bytes front) ∙ same_bytes id) ∙ ap (λ (n : ℕ). 1 + n) (twice_cost xs)
twice_cost (Leaf holder path mode id ∷ xs) = let rest = twice_cost xs in omega (arith, rest)

pub alone_both : (xs : List Step) → (changes (merge xs xs) ≡ []) × (cost (merge xs xs) ≡ visits xs)
alone_both xs = (ap changes (merge_twice xs) ∙ twice_changes xs, ap cost (merge_twice xs) ∙ twice_cost xs)

-- ---- what a walk that counts has counted

pub counted_dirs : (trees : Trees) (xs : List Step) (c d : Counts) → judge trees xs c ≡ Counted d → d.dirs ≡ c.dirs + visits xs
counted_dirs trees [] c d is = let e : c ≡ d = cc in let f : c.dirs ≡ d.dirs = ap (λ (x : Counts). x.dirs) e in omega (arith, f)
counted_dirs trees (Visit left front id ∷ xs) c d is = by_test (counted_dirs trees xs (one_dir c) d) (is_open left (length front == 0) (trees id)) is
  where
    by_test : (judge trees xs (one_dir c) ≡ Counted d → d.dirs ≡ (c.dirs + 1) + visits xs) → (b : Bool) → goes_on (cond b (Counted (one_dir c)) (Broken id)) (judge trees xs) ≡ Counted d → d.dirs ≡ c.dirs + (1 + visits xs)
    by_test later true e = let rest = later e in omega (arith, rest)
    by_test later false e = cc
counted_dirs trees (Leaf holder path mode id ∷ xs) c d is = by_test (counted_dirs trees xs (one_path c (length path)) d) (has_room c (length path)) is
  where
    by_test : (judge trees xs (one_path c (length path)) ≡ Counted d → d.dirs ≡ c.dirs + visits xs) → (b : Bool) → goes_on (cond b (Counted (one_path c (length path))) (Broken holder)) (judge trees xs) ≡ Counted d → d.dirs ≡ c.dirs + (0 + visits xs)
    by_test later true e = let rest = later e in omega (arith, rest)
    by_test later false e = cc
