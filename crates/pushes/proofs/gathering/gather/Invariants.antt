use Rattle.std.proofs.Common.{◌≡◌, take}
use Rattle.keeper_api.specs.Undisturbed.{Undisturbed}
use Rattle.pushes.proofs.Gathered.{IsSoFar}
use Rattle.pushes.proofs.gathering.gather.Given as goal

abbrev pub invariant-ids : goal.invariant-ids
invariant-ids g l = record {
  so : IsSoFar (g.R.Keeper.content l.keeper) (take l.id-index l.ids) l.objects l.len;
  same : Undisturbed g.R.Keeper l.fn.keeper l.keeper;
  quiet : g.R.Keeper.faults l.keeper ≡ g.R.Keeper.faults l.fn.keeper;
}
