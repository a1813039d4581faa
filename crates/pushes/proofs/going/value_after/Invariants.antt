use Rattle.std.proofs.Common.{◌≡◌, ◌≤◌, Some, length}
use Rattle.git_object.specs.Repository.{Repository}
use Rattle.keeper_api.specs.Undisturbed.{Undisturbed}
use Rattle.pushes.proofs.Values.{NoneFrom}
use Rattle.pushes.proofs.going.value_after.Given as goal

abbrev pub invariant-entries : goal.invariant-entries
invariant-entries g l = record {
  from : (r : Repository) → g.R.Keeper.content l.keeper ≡ Some r → NoneFrom r l.name l.before l.end;
  within : l.end ≤ length l.before;
  same : Undisturbed g.R.Keeper l.fn.keeper l.keeper;
  quiet : g.R.Keeper.faults l.keeper ≡ g.R.Keeper.faults l.fn.keeper;
}

abbrev pub decreases-entries : goal.decreases-entries
decreases-entries g l = l.end
