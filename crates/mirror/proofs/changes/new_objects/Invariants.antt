use Rattle.std.proofs.Common.{◌≡◌, Some, take}
use Rattle.git_object.specs.Repository.{Repository}
use Rattle.keeper_api.specs.Undisturbed.{Undisturbed}
use Rattle.mirror.specs.Changes.{new_objects}
use Rattle.mirror.proofs.changes.new_objects.Given as goal

abbrev pub invariant-offered : goal.invariant-offered
invariant-offered g l = record {
  new : (r : Repository) → g.R.Keeper.content l.kept ≡ Some r
      → l.news ≡ new_objects r.objects l.fn.held.held.objects (take l.object-index l.offered);
  held : l.held.held ≡ l.fn.held.held;
  same : Undisturbed g.R.Keeper l.fn.kept l.kept;
  quiet : g.R.Keeper.faults l.kept ≡ g.R.Keeper.faults l.fn.kept;
}
