use Rattle.std.proofs.Common.{◌≡◌, ◌≤◌, ◌+◌, ◌-◌, ◌*◌, ℕ, List, Some, length, min}
use Rattle.git_object.specs.Repository.{Repository}
use Rattle.keeper_api.specs.Undisturbed.{Undisturbed}
use Rattle.tree_paths.specs.Adding.{AddsBefore}
use Rattle.tree_paths.specs.Known.{AreFewKnown, AreKnownIn, HasRoom, StayKnown}
use Rattle.tree_paths.specs.Listings.{visits}
use Rattle.tree_paths.specs.Readings.{Readings, Told}
use Rattle.tree_paths.specs.Walks.{below, steps}
use Rattle.tree_paths.proofs.additions.+learning.Given as goal

abbrev pub decreases-learn_tree : goal.decreases-learn_tree
decreases-learn_tree g l = 2 * l.left + 1

abbrev pub decreases-learn_entry : goal.decreases-learn_entry
decreases-learn_entry g l = 2 * l.left

abbrev pub invariant-learn_tree-entries : goal.invariant-learn_tree-entries
invariant-learn_tree-entries g l = record {
  adds : (readings : Readings) (front : List ℕ) → Told (g.R.Keeper.content l.keeper) readings → l.len ≡ min (length front) 8192
      → AddsBefore readings.trees (steps readings.trees l.left front l.id) l.adds (below (steps readings.trees (l.left - 1)) l.id front l.rest);
  known : (r : Repository) → g.R.Keeper.content l.keeper ≡ Some r → AreKnownIn r l.known;
  tree : (readings : Readings) → Told (g.R.Keeper.content l.keeper) readings → readings.trees l.id ≡ Some l.initial.rest;
  visited : (readings : Readings) (front : List ℕ) → Told (g.R.Keeper.content l.keeper) readings
      → g.R.Keeper.reads l.keeper + visits (below (steps readings.trees (l.left - 1)) l.id front l.rest) ≤ g.R.Keeper.reads l.fn.keeper + visits (steps readings.trees l.left front l.id);
  same : Undisturbed g.R.Keeper l.fn.keeper l.keeper;
  few : AreFewKnown l.fn.known → AreFewKnown l.known;
  room : HasRoom l.fn.known → HasRoom l.known;
  stay : StayKnown l.fn.known l.known;
  quiet : g.R.Keeper.faults l.keeper ≡ g.R.Keeper.faults l.fn.keeper;
}

abbrev pub decreases-learn_tree-entries : goal.decreases-learn_tree-entries
decreases-learn_tree-entries g l = length l.rest
