use Rattle.std.proofs.Common.{◌≡◌, None, Some, take}
use Rattle.std.specs.List.{find}
use Rattle.git_object.specs.Repository.{Repository}
use Rattle.keeper_api.specs.Undisturbed.{Undisturbed}
use Rattle.pushes.specs.Making.{is_missing}
use Rattle.pushes.proofs.missing.first_missing.Given as goal

abbrev pub invariant-ids : goal.invariant-ids
invariant-ids g l = record {
  none : (r : Repository) → g.R.Keeper.content l.keeper ≡ Some r → find (is_missing r) (take l.id-index l.ids) ≡ None;
  same : Undisturbed g.R.Keeper l.fn.keeper l.keeper;
  quiet : g.R.Keeper.faults l.keeper ≡ g.R.Keeper.faults l.fn.keeper;
}
