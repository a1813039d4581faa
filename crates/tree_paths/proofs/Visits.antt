-- How many trees the steps of a tree and of its entries visit.
use Rattle.std.proofs.Common.{◌≡◌, ℕ, ◌≤◌, ◌-◌, ◌+◌, List, [], ◌∷◌, ◌++◌, Bool, Option, Some, ap, ◌∙◌, arith}
use Rattle.git_object.specs.declared.trees.TreeEntry.{TreeEntry}
use Rattle.tree_paths.specs.Listings.{visits}
use Rattle.tree_paths.specs.Readings.{Trees}
use Rattle.tree_paths.specs.Walks.{Step, below, listed, opened, steps}
use Rattle.tree_paths.proofs.Judging.{is_opened, piece_of, steps_at, steps_first}

visits_append : (xs ys : List Step) → visits (xs ++ ys) ≡ visits xs + visits ys
visits_append [] ys = omega arith
visits_append (x ∷ xs) ys = let more = visits_append xs ys in omega (arith, more)

-- a tree is visited itself
pub visited_once : (trees : Trees) (left : ℕ) (front id : List ℕ) (before now : ℕ) → now ≤ before + 1 → now ≤ before + visits (steps trees left front id)
visited_once trees left front id before now one = let first = steps_first trees left front id in let e = ap visits first.1 in omega (arith, one, e)

-- and then its entries
pub visits_open : (trees : Trees) (left : ℕ) (front id : List ℕ) (root : Bool) (es : List TreeEntry) → 1 ≤ left → Some es ≡ opened left root (trees id)
    → visits (steps trees left front id) ≡ 1 + visits (below (steps trees (left - 1)) id front es)
visits_open trees left front id root es some opens =
    ap visits (steps_at trees left front id some) ∙ ap (λ (t : Option (List TreeEntry)). 1 + visits (below (steps trees (left - 1)) id front (listed t))) (is_opened left root (trees id) es opens).there

-- an entry, and those after it
pub visits_entry : (into : List ℕ → List ℕ → List Step) (holder front : List ℕ) (rest es : List TreeEntry) (e : TreeEntry) → rest ≡ e ∷ es
    → visits (below into holder front rest) ≡ visits (piece_of into holder front e) + visits (below into holder front es)
visits_entry into holder front rest es e at = ap (λ (r : List TreeEntry). visits (below into holder front r)) at ∙ visits_append (piece_of into holder front e) (below into holder front es)
