use Rattle.std.proofs.Common.{◌≡◌, ◌≤◌, ◌+◌, Some, length}
use Rattle.git_object.specs.Repository.{Repository}
use Rattle.keeper_api.specs.Undisturbed.{Undisturbed}
use Rattle.global_rules.specs.Commits.{commit_parents}
use Rattle.global_rules.proofs.Turns.{IsAtTurn}
use Rattle.global_rules.proofs.walking.walk.Given as goal

abbrev pub invariant-commits : goal.invariant-commits
invariant-commits g l = record {
  at : (r : Repository) → g.R.Keeper.content l.keeper ≡ Some r → IsAtTurn (commit_parents r) l.root l.from l.at l.met l._count;
  within : l.at ≤ length l.met;
  same : Undisturbed g.R.Keeper l.fn.keeper l.keeper;
  quiet : g.R.Keeper.faults l.keeper ≡ g.R.Keeper.faults l.fn.keeper;
  reads : g.R.Keeper.reads l.keeper ≤ g.R.Keeper.reads l.fn.keeper + l.at;
}
