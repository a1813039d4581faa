use Rattle.std.proofs.Common.{◌≡◌, Some, take}
use Rattle.git_object.specs.Repository.{Repository}
use Rattle.keeper_api.specs.Growing.{NoneClashes}
use Rattle.keeper_api.specs.Undisturbed.{Undisturbed}
use Rattle.keeper_layers.proofs.replacing.replaces.Given as goal

abbrev pub invariant-objects : goal.invariant-objects
invariant-objects g l = record {
  none : (r : Repository) → g.R.Keeper.content l.keeper ≡ Some r → NoneClashes (take l.object-index l.objects) r;
  same : Undisturbed g.R.Keeper l.fn.keeper l.keeper;
  quiet : g.R.Keeper.faults l.keeper ≡ g.R.Keeper.faults l.fn.keeper;
}
