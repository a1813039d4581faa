use Rattle.std.proofs.Common.{◌≡◌, ◌≤◌, ◌+◌, Some, sum_by, take}
use Rattle.git_object.specs.Repository.{Repository}
use Rattle.keeper_api.specs.Undisturbed.{Undisturbed}
use Rattle.policy_reading.proofs.Passing.{StandsUpTo}
use Rattle.policy_reading.specs.Reading.{entry_reads}
use Rattle.policy_reading.proofs.log_epochs.take_ids.Given as goal

abbrev pub invariant-ids : goal.invariant-ids
invariant-ids g l = record {
  anchor : l.epochs.anchor ≡ l.fn.epochs.anchor;
  stands : (r : Repository) → g.R.Keeper.content l.keeper ≡ Some r → StandsUpTo r l.ids l.id-index l.epochs;
  reads : (r : Repository) → g.R.Keeper.content l.keeper ≡ Some r → g.R.Keeper.reads l.keeper ≤ g.R.Keeper.reads l.fn.keeper + sum_by (entry_reads r) (take l.id-index l.ids);
  same : Undisturbed g.R.Keeper l.fn.keeper l.keeper;
  quiet : g.R.Keeper.faults l.keeper ≡ g.R.Keeper.faults l.fn.keeper;
}
