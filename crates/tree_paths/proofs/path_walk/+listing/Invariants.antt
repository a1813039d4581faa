use Rattle.std.proofs.Common.{◌≡◌, ◌≤◌, ◌<◌, ◌+◌, ◌-◌, ◌*◌, ◌++◌, length}
use Rattle.keeper_api.specs.Undisturbed.{Undisturbed}
use Rattle.tree_paths.specs.Listings.{leaves}
use Rattle.tree_paths.specs.Readings.{Readings, Told}
use Rattle.tree_paths.specs.Walks.{below, judge, steps}
use Rattle.tree_paths.proofs.path_walk.+listing.Given as goal

abbrev pub decreases-list_tree : goal.decreases-list_tree
decreases-list_tree g l = 2 * l.left + 1

abbrev pub decreases-list_entry : goal.decreases-list_entry
decreases-list_entry g l = 2 * l.left

abbrev pub invariant-list_tree-entries : goal.invariant-list_tree-entries
invariant-list_tree-entries g l = record {
  walk : (readings : Readings) → Told (g.R.Keeper.content l.keeper) readings
      → judge readings.trees (steps readings.trees l.left l.front l.id) l.fn.start ≡ judge readings.trees (below (steps readings.trees (l.left - 1)) l.id l.front l.rest) l.counts;
  listed : (readings : Readings) → Told (g.R.Keeper.content l.keeper) readings
      → l.fn.paths ++ leaves (steps readings.trees l.left l.front l.id) ≡ l.paths ++ leaves (below (steps readings.trees (l.left - 1)) l.id l.front l.rest);
  same : Undisturbed g.R.Keeper l.fn.keeper l.keeper;
  quiet : g.R.Keeper.faults l.keeper ≡ g.R.Keeper.faults l.fn.keeper;
  few : l.counts.paths ≤ 262144;
  room : l.counts.dirs + l.left ≤ 32 * l.counts.paths + 33;
  full : length l.rest ≡ 0 → l.left < 32 → l.counts.dirs ≤ 32 * l.counts.paths;
  spent : g.R.Keeper.reads l.keeper + l.fn.start.dirs ≤ g.R.Keeper.reads l.fn.keeper + l.counts.dirs;
}

abbrev pub decreases-list_tree-entries : goal.decreases-list_tree-entries
decreases-list_tree-entries g l = length l.rest
