use Rattle.std.proofs.Common.{◌≡◌, ◌≤◌, ◌<◌, ◌+◌, ◌-◌, ◌*◌, ℕ, List, length, min}
use Rattle.keeper_api.specs.Undisturbed.{Undisturbed}
use Rattle.tree_paths.specs.Pairings.{Goes}
use Rattle.tree_paths.specs.Readings.{Readings, Told}
use Rattle.tree_paths.specs.Walks.{below, steps}
use Rattle.tree_paths.proofs.double_walk.+twice.Given as goal

abbrev pub decreases-twice_tree : goal.decreases-twice_tree
decreases-twice_tree g l = 2 * l.left + 1

abbrev pub decreases-twice_entry : goal.decreases-twice_entry
decreases-twice_entry g l = 2 * l.left

abbrev pub invariant-twice_tree-entries : goal.invariant-twice_tree-entries
invariant-twice_tree-entries g l = record {
  walk : (readings : Readings) (front : List ℕ) → Told (g.R.Keeper.content l.keeper) readings → l.len ≡ min (length front) 8192
      → Goes readings.trees (steps readings.trees l.left front l.id) (steps readings.trees l.left front l.id) l.fn.start
      (below (steps readings.trees (l.left - 1)) l.id front l.rest) (below (steps readings.trees (l.left - 1)) l.id front l.rest) l.counts;
  same : Undisturbed g.R.Keeper l.fn.keeper l.keeper;
  quiet : g.R.Keeper.faults l.keeper ≡ g.R.Keeper.faults l.fn.keeper;
  few_from : l.counts.from.paths ≤ 262144;
  few_to : l.counts.to.paths ≤ 262144;
  room_from : l.counts.from.dirs + l.left ≤ 32 * l.counts.from.paths + 33;
  room_to : l.counts.to.dirs + l.left ≤ 32 * l.counts.to.paths + 33;
  full_from : length l.rest ≡ 0 → l.left < 32 → l.counts.from.dirs ≤ 32 * l.counts.from.paths;
  full_to : length l.rest ≡ 0 → l.left < 32 → l.counts.to.dirs ≤ 32 * l.counts.to.paths;
  spent : g.R.Keeper.reads l.keeper + l.fn.start.from.dirs ≤ g.R.Keeper.reads l.fn.keeper + l.counts.from.dirs;
}

abbrev pub decreases-twice_tree-entries : goal.decreases-twice_tree-entries
decreases-twice_tree-entries g l = length l.rest
