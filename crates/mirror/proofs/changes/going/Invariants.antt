use Rattle.std.proofs.Common.{◌≡◌, Some}
use Rattle.std.specs.FinMap.{entries}
use Rattle.git_object.specs.Repository.{Repository}
use Rattle.keeper_api.specs.Undisturbed.{Undisturbed}
use Rattle.mirror.proofs.Going.{IsGoingTo}
use Rattle.mirror.proofs.changes.going.Given as goal

abbrev pub invariant-refs : goal.invariant-refs
invariant-refs g l = record {
  so : (r : Repository) → g.R.Keeper.content l.kept ≡ Some r → IsGoingTo (entries r.refs) l.last l.gone;
  same : Undisturbed g.R.Keeper l.fn.kept l.kept;
  quiet : g.R.Keeper.faults l.kept ≡ g.R.Keeper.faults l.fn.kept;
}
