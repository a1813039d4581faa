use Rattle.std.proofs.Common.{◌≡◌, Some, take}
use Rattle.git_object.specs.Repository.{Repository}
use Rattle.keeper_api.specs.Undisturbed.{Undisturbed}
use Rattle.account_lines.specs.Used.{IsUsed}
use Rattle.account_lines.proofs.walking.greatest_used.Given as goal

abbrev pub invariant-ids : goal.invariant-ids
invariant-ids g l = record {
  so : (r : Repository) → g.R.Keeper.content l.keeper ≡ Some r → IsUsed r l.id l.public (take l.place-index l.ids) l.most;
  same : Undisturbed g.R.Keeper l.fn.keeper l.keeper;
  quiet : g.R.Keeper.faults l.keeper ≡ g.R.Keeper.faults l.fn.keeper;
}
