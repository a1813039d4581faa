use Rattle.std.proofs.Common.{◌≡◌, ◌+◌, ◌-◌, ◌*◌, length}
use Rattle.git_object.specs.Trees.{AreWellFormed}
use Rattle.keeper_api.specs.Undisturbed.{Undisturbed}
use Rattle.tree_paths.specs.Pairings.{Goes}
use Rattle.tree_paths.specs.Places.{Kept, Rest}
use Rattle.tree_paths.specs.Readings.{Readings, Told}
use Rattle.tree_paths.specs.Walks.{below, steps}
use Rattle.tree_paths.proofs.paired_walk.+pairing.Given as goal

abbrev pub decreases-pair_trees : goal.decreases-pair_trees
decreases-pair_trees g l = 3 * l.left + 2

abbrev pub decreases-pair_place : goal.decreases-pair_place
decreases-pair_place g l = 3 * l.left + 1

abbrev pub decreases-pair_entries : goal.decreases-pair_entries
decreases-pair_entries g l = 3 * l.left

abbrev pub invariant-pair_trees-places : goal.invariant-pair_trees-places
invariant-pair_trees-places g l = record {
  walk : (readings : Readings) → Told (g.R.Keeper.content l.keeper) readings
      → Goes readings.trees (steps readings.trees l.left l.front l.from) (steps readings.trees l.left l.front l.to) l.fn.start
      (below (steps readings.trees (l.left - 1)) l.from l.front l.rest_from) (below (steps readings.trees (l.left - 1)) l.to l.front l.rest_to) l.counts;
  rest : (readings : Readings) → Told (g.R.Keeper.content l.keeper) readings
      → Rest (steps readings.trees l.left l.front l.from) (steps readings.trees l.left l.front l.to) l.fn.paths (g.R.Keeper.reads l.fn.keeper)
      (below (steps readings.trees (l.left - 1)) l.from l.front l.rest_from) (below (steps readings.trees (l.left - 1)) l.to l.front l.rest_to) l.paths (g.R.Keeper.reads l.keeper);
  formed_from : AreWellFormed l.rest_from;
  formed_to : AreWellFormed l.rest_to;
  same : Undisturbed g.R.Keeper l.fn.keeper l.keeper;
  quiet : g.R.Keeper.faults l.keeper ≡ g.R.Keeper.faults l.fn.keeper;
  kept_from : Kept l.left l.rest_from l.counts.from;
  kept_to : Kept l.left l.rest_to l.counts.to;
}

abbrev pub decreases-pair_trees-places : goal.decreases-pair_trees-places
decreases-pair_trees-places g l = length l.rest_from + length l.rest_to
