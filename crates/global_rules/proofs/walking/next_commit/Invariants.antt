use Rattle.std.proofs.Common.{◌≡◌, ◌≤◌, ◌+◌, ◌-◌, Some, length}
use Rattle.git_object.specs.Repository.{Repository}
use Rattle.keeper_api.specs.Undisturbed.{Undisturbed}
use Rattle.global_rules.specs.Commits.{NoCommits, commit_parents}
use Rattle.global_rules.proofs.walking.next_commit.Given as goal

abbrev pub invariant-places : goal.invariant-places
invariant-places g l = record {
  on : l.fn.at ≤ l.at;
  within : l.at ≤ length l.ids;
  passed : (r : Repository) → g.R.Keeper.content l.keeper ≡ Some r → NoCommits (commit_parents r) l.ids l.fn.at l.at;
  same : Undisturbed g.R.Keeper l.fn.keeper l.keeper;
  quiet : g.R.Keeper.faults l.keeper ≡ g.R.Keeper.faults l.fn.keeper;
  reads : g.R.Keeper.reads l.keeper ≤ g.R.Keeper.reads l.fn.keeper + (l.at - l.fn.at);
}

abbrev pub decreases-places : goal.decreases-places
decreases-places g l = length l.ids - l.at
