use Rattle.std.proofs.Common.{◌≡◌, ◌≤◌, ◌+◌, length, Some}
use Rattle.std.specs.Prelude.{unwrap_or}
use Rattle.git_object.specs.Repository.{Repository}
use Rattle.keeper_api.specs.Undisturbed.{Undisturbed}
use Rattle.rsl_chain.specs.Logs.{heads_of}
use Rattle.rsl_chain.proofs.Walks.{Back, IsFew}
use Rattle.rsl_chain.proofs.chain.walk_back.Given as goal

abbrev pub invariant-entries : goal.invariant-entries
invariant-entries g l = record {
  back : (r : Repository) → g.R.Keeper.content l.keeper ≡ Some r → Back (heads_of r) l.tip l.ids l.wanted l.at;
  few : IsFew (length l.ids) l.wanted;
  same : Undisturbed g.R.Keeper l.fn.keeper l.keeper;
  quiet : g.R.Keeper.faults l.keeper ≡ g.R.Keeper.faults l.fn.keeper;
  reads : g.R.Keeper.reads l.keeper ≤ g.R.Keeper.reads l.fn.keeper + length l.ids;
}

abbrev pub decreases-entries : goal.decreases-entries
decreases-entries g l = unwrap_or l.wanted 1000001
