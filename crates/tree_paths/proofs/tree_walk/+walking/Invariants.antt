use Rattle.std.proofs.Common.{◌≡◌, ◌≤◌, ◌<◌, ◌+◌, ◌-◌, ◌*◌, ℕ, List, length, min}
use Rattle.keeper_api.specs.Undisturbed.{Undisturbed}
use Rattle.tree_paths.specs.Listings.{visits}
use Rattle.tree_paths.specs.Readings.{Readings, Told}
use Rattle.tree_paths.specs.Walks.{below, judge, steps}
use Rattle.tree_paths.proofs.tree_walk.+walking.Given as goal

abbrev pub decreases-walk_tree : goal.decreases-walk_tree
decreases-walk_tree g l = 2 * l.left + 1

abbrev pub decreases-walk_entry : goal.decreases-walk_entry
decreases-walk_entry g l = 2 * l.left

abbrev pub invariant-walk_tree-entries : goal.invariant-walk_tree-entries
invariant-walk_tree-entries g l = record {
  walk : (readings : Readings) (front : List ℕ) → Told (g.R.Keeper.content l.keeper) readings → l.len ≡ min (length front) 8192
      → judge readings.trees (steps readings.trees l.left front l.id) l.fn.start ≡ judge readings.trees (below (steps readings.trees (l.left - 1)) l.id front l.rest) l.counts;
  same : Undisturbed g.R.Keeper l.fn.keeper l.keeper;
  quiet : g.R.Keeper.faults l.keeper ≡ g.R.Keeper.faults l.fn.keeper;
  few : l.counts.paths ≤ 262144;
  room : l.counts.dirs + l.left ≤ 32 * l.counts.paths + 33;
  full : length l.rest ≡ 0 → l.left < 32 → l.counts.dirs ≤ 32 * l.counts.paths;
  visited : (readings : Readings) (front : List ℕ) → Told (g.R.Keeper.content l.keeper) readings
      → g.R.Keeper.reads l.keeper + visits (below (steps readings.trees (l.left - 1)) l.id front l.rest) ≤ g.R.Keeper.reads l.fn.keeper + visits (steps readings.trees l.left front l.id);
  spent : g.R.Keeper.reads l.keeper + l.fn.start.dirs ≤ g.R.Keeper.reads l.fn.keeper + l.counts.dirs;
}

abbrev pub decreases-walk_tree-entries : goal.decreases-walk_tree-entries
decreases-walk_tree-entries g l = length l.rest
