use Rattle.std.proofs.Common.{◌≡◌, ◌+◌, ◌-◌, ◌*◌, ◌++◌, length, map, ℕ, List}
use Rattle.git_object.specs.Objects.{pair_id}
use Rattle.git_object.specs.Trees.{AreWellFormed}
use Rattle.tree_paths.specs.Readings.{Trees}
use Rattle.tree_paths.specs.States.{path_values}
use Rattle.tree_paths.specs.Walks.{below, steps}
use Rattle.object_making.specs.Keeping.{Adds, Keeps}
use Rattle.object_making.specs.Listings.{values}
use Rattle.object_making.specs.Made.{AreOpen, ids_below, tree_ids}
use Rattle.object_making.specs.Matching.{AreFormed, Matches}
use Rattle.object_making.proofs.making.+making.Given as goal

abbrev pub decreases-make_tree : goal.decreases-make_tree
decreases-make_tree l = 2 * l.left + 1

abbrev pub decreases-put_directory : goal.decreases-put_directory
decreases-put_directory l = 2 * l.left

abbrev pub invariant-make_tree-listing : goal.invariant-make_tree-listing
invariant-make_tree-listing l = record {
  kept : Adds l.fn.objects l.objects;
  formed : AreWellFormed l.tree.entries;
  walk : (trees : Trees) (holder : List ℕ) → Keeps trees l.objects → path_values (below (steps trees (l.left - 1)) holder l.front l.tree.entries) ++ values l.rest ≡ values l.listing;
  ids : (trees : Trees) → Keeps trees l.objects → map pair_id l.objects ≡ map pair_id l.fn.objects ++ ids_below (tree_ids trees (l.left - 1)) l.tree.entries;
  visited : (trees : Trees) (holder : List ℕ) → Keeps trees l.objects → AreOpen trees (below (steps trees (l.left - 1)) holder l.front l.tree.entries);
  some : length l.tree.entries ≡ 0 → l.rest ≡ l.listing;
  match : (trees : Trees) (id : List ℕ) → AreFormed trees → path_values (steps trees l.left l.front id) ≡ values l.listing → Matches (steps trees (l.left - 1)) id l.front l.tree.entries l.rest;
}

abbrev pub decreases-make_tree-listing : goal.decreases-make_tree-listing
decreases-make_tree-listing l = length l.rest
