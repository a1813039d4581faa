use Rattle.std.proofs.Common.{◌≡◌, ◌+◌, length}
use Rattle.keeper_api.specs.Undisturbed.{Undisturbed}
use Rattle.pushes.specs.Needing.{start_of}
use Rattle.pushes.proofs.Walks.{IsAt}
use Rattle.pushes.proofs.Weights.{weight}
use Rattle.pushes.proofs.needing.first_missing.Given as goal

abbrev pub invariant-ids : goal.invariant-ids
invariant-ids g l = record {
  at : IsAt l.objects (g.R.Keeper.content l.keeper) (start_of l.body) l.seen l.ahead.items;
  same : Undisturbed g.R.Keeper l.fn.keeper l.keeper;
  quiet : g.R.Keeper.faults l.keeper ≡ g.R.Keeper.faults l.fn.keeper;
}

abbrev pub decreases-ids : goal.decreases-ids
decreases-ids g l = weight l.objects l.seen + length l.ahead.items
