use Rattle.std.proofs.Common.{◌≡◌, ◌≤◌, ◌+◌, Some, List, take}
use Rattle.git_object.specs.Repository.{Repository}
use Rattle.keeper_api.specs.Undisturbed.{Undisturbed}
use Rattle.rsl_chain.specs.Entries.{Taken}
use Rattle.entry_rules.specs.RealRules.{real_rules}
use Rattle.entry_rules.specs.Learning.{AreKnownIn}
use Rattle.verify_ref.specs.Following.{Follows}
use Rattle.verify_ref.specs.Logs.{AreEntries}
use Rattle.verify_ref.specs.Reading.{reads_behind}
use Rattle.pushes.specs.Steps.{ids_of}
use Rattle.desk_core.specs.Lagging.{AreBoundedBehind, TakesAll}
use Rattle.desk_core.proofs.catching_up.take_all.Given as goal

abbrev pub invariant-rows : goal.invariant-rows
invariant-rows g l = record {
  takes : (r : Repository) (log : List Taken) → g.R.Keeper.content l.keeper ≡ Some r → Follows log l.fn.engine → TakesAll r log (ids_of (take l.row-index l.rows)) l.engine;
  reads : (r : Repository) (log more : List Taken) → g.R.Keeper.content l.keeper ≡ Some r → Follows log l.fn.engine → AreEntries r (ids_of (take l.row-index l.rows)) more
      → AreBoundedBehind (real_rules l.fn.engine.rules.anchor) log more → g.R.Keeper.reads l.keeper ≤ g.R.Keeper.reads l.fn.keeper + reads_behind (real_rules l.fn.engine.rules.anchor) log more;
  unread : l.row-index ≡ 0 → g.R.Keeper.reads l.keeper ≡ g.R.Keeper.reads l.fn.keeper;
  rules : l.engine.rules ≡ l.fn.engine.rules;
  known : (r : Repository) → g.R.Keeper.content l.keeper ≡ Some r → AreKnownIn r l.engine.known;
  same : Undisturbed g.R.Keeper l.fn.keeper l.keeper;
  quiet : g.R.Keeper.faults l.keeper ≡ g.R.Keeper.faults l.fn.keeper;
}
