-- Two walks side by side: their steps paired place by place.
use Rattle.std.specs.Prelude.{◌≡◌, ◌≤◌, ◌+◌, ◌==◌, ◌&&◌, ◌++◌, ◌∷◌, [], ℕ, Bool, true, false, cond, List, Option, Some}
use Rattle.std.specs.Prelude.{None}
use Rattle.std.specs.Str.{bytes_eq}
use Rattle.std.specs.declared.cmp.Ordering.{Ordering}
use Rattle.std.specs.declared.cmp.Ordering.TheVariants.{Less, Equal, Greater}
use Rattle.octets.specs.BytesMap.{by_bytes}
use Rattle.git_object.specs.declared.modes.Mode.{Mode}
use Rattle.git_object.specs.declared.modes.Mode.TheVariants.{Dir, Exec, File, Link, Module}
use Rattle.tree_paths.specs.Readings.{Trees}
use Rattle.tree_paths.specs.Walks.{IsFew, Leaf, Step, Visit, judge}
use Rattle.tree_paths.specs.States.{PathValue}
use Rattle.tree_paths.specs.declared.counts.Walked.{Walked}
use Rattle.tree_paths.specs.declared.counts.Walked.TheVariants.{Broken, Counted}
use Rattle.tree_paths.specs.declared.paired_counts.PairCounts.{PairCounts}
use Rattle.tree_paths.specs.declared.paired_counts.Paired.{Paired}
use Rattle.tree_paths.specs.declared.paired_counts.Paired.TheVariants as paired

-- where a step stands
abbrev pub place : Step → List ℕ
place (Visit left front id) = front
place (Leaf holder path mode id) = path

-- what a step says of the path at its place
abbrev pub value : Step → Option PathValue
value (Visit left front id) = None
value (Leaf holder path mode id) = Some (mode, id)

-- how many trees a step visits
abbrev pub visits_in : Step → ℕ
visits_in (Visit left front id) = 1
visits_in (Leaf holder path mode id) = 0

-- both visit one tree at one place
abbrev pub same_visit : Step → Step → Bool
same_visit (Visit left front id) (Visit right place other) = bytes_eq front place && bytes_eq id other
same_visit (Visit left front id) (Leaf holder path mode other) = false
same_visit (Leaf holder path mode id) y = false

abbrev pub mode_number : Mode → ℕ
mode_number Dir = 0
mode_number File = 1
mode_number Exec = 2
mode_number Link = 3
mode_number Module = 4

abbrev pub same_value : PathValue → PathValue → Bool
same_value v w = (mode_number v.0 == mode_number w.0) && bytes_eq v.1 w.1

abbrev pub alike : Option PathValue → Option PathValue → Bool
alike None None = true
alike None (Some w) = false
alike (Some v) None = false
alike (Some v) (Some w) = same_value v w

-- ---- pairs

pub data Pairing : Type 0 where
  FromOnly : (x : Step) → Pairing
  ToOnly : (y : Step) → Pairing
  InBoth : (x : Step) (y : Step) → Pairing

abbrev pub only_to : List Step → List Pairing
only_to [] = []
only_to (y ∷ ys) = ToOnly y ∷ only_to ys

-- the pair that comes first, and what follows it
abbrev pub turn : Ordering → Step → Step → List Pairing → List Pairing → List Pairing → List Pairing
turn Less x y first both second = FromOnly x ∷ first
turn Equal x y first both second = InBoth x y ∷ both
turn Greater x y first both second = ToOnly y ∷ second

abbrev pub pair_in : (List Step → List Pairing) → Step → List Step → List Pairing
pair_in next x [] = FromOnly x ∷ next []
pair_in next x (y ∷ ys) = turn (by_bytes (place x) (place y)) x y (next (y ∷ ys)) (next ys) (pair_in next x ys)

-- two walks paired
abbrev pub merge : List Step → List Step → List Pairing
merge [] ys = only_to ys
merge (x ∷ xs) ys = pair_in (merge xs) x ys

-- ---- what a pairing says

-- the place, where what stands there differs
abbrev pub change_at : List ℕ → Option PathValue → Option PathValue → List (List ℕ)
change_at path v w = cond (alike v w) [] (path ∷ [])

abbrev pub change : Pairing → List (List ℕ)
change (FromOnly x) = change_at (place x) (value x) None
change (ToOnly y) = change_at (place y) None (value y)
change (InBoth x y) = change_at (place x) (value x) (value y)

abbrev pub changes : List Pairing → List (List ℕ)
changes [] = []
changes (p ∷ ps) = change p ++ changes ps

-- a tree that both visit at one place is read once
abbrev pub price : Pairing → ℕ
price (FromOnly x) = visits_in x
price (ToOnly y) = visits_in y
price (InBoth x y) = cond (same_visit x y) 0 (visits_in x) + visits_in y

abbrev pub cost : List Pairing → ℕ
cost [] = 0
cost (p ∷ ps) = price p + cost ps

-- ---- what two walks at once answer

abbrev pub IsPaired : Trees → List Step → List Step → PairCounts → Paired → Type 0
IsPaired trees xs ys start (paired.FromBroken id) = judge trees xs start.from ≡ Broken id
IsPaired trees xs ys start (paired.ToBroken id) = judge trees ys start.to ≡ Broken id
IsPaired trees xs ys start (paired.BothCounted c) = (judge trees xs start.from ≡ Counted c.from)
    × (judge trees ys start.to ≡ Counted c.to)

abbrev pub IfBoth : Paired → (PairCounts → Type 0) → Type 0
IfBoth (paired.FromBroken id) P = Unit {0}
IfBoth (paired.ToBroken id) P = Unit {0}
IfBoth (paired.BothCounted c) P = P c

-- the changed paths of two walks were added, and no more was read than the pairs cost
pub record Sides (xs ys : List Step) (paths paths_after : List (List ℕ)) (reads reads_after : ℕ) : Type 0 where
  pub changed : paths_after ≡ paths ++ changes (merge xs ys)
  pub spent : reads_after ≤ reads + cost (merge xs ys)

-- one path for both
abbrev pub both_leaves : Walked → Walked → Paired
both_leaves (Broken id) w = paired.FromBroken id
both_leaves (Counted c) (Broken id) = paired.ToBroken id
both_leaves (Counted c) (Counted d) = paired.BothCounted (record { from = c; to = d })

-- counts of both that are within the limits
pub record AreFew (left : ℕ) (c : PairCounts) : Type 0 where
  pub from : IsFew left c.from
  pub to : IsFew left c.to

-- two walks that began with these counts are judged as what is left of them is from here
pub record Goes (trees : Trees) (all_from all_to : List Step) (start : PairCounts) (xs ys : List Step)
    (c : PairCounts) : Type 0 where
  pub first : judge trees all_from start.from ≡ judge trees xs c.from
  pub second : judge trees all_to start.to ≡ judge trees ys c.to
