use Rattle.std.proofs.Common.{◌≡◌, ◌≤◌, ◌+◌, Some, List, take}
use Rattle.git_object.specs.Repository.{Repository}
use Rattle.keeper_api.specs.Undisturbed.{Undisturbed}
use Rattle.rsl_chain.specs.Entries.{Taken}
use Rattle.judging.specs.Engines.{Stands}
use Rattle.entry_rules.specs.RealRules.{real_rules}
use Rattle.entry_rules.specs.Learning.{AreKnownIn}
use Rattle.verify_ref.specs.Logs.{AreEntries}
use Rattle.verify_ref.specs.Reading.{AreBounded, judging_reads}
use Rattle.verify_ref.proofs.judged_log.take_all.Given as goal

abbrev pub invariant-ids : goal.invariant-ids
invariant-ids g l = record {
  so : (r : Repository) → g.R.Keeper.content l.keeper ≡ Some r → (log : List Taken) × AreEntries r (take l.id-index l.ids) log × Stands (real_rules l.rules.anchor) log l.engine;
  known : (r : Repository) → g.R.Keeper.content l.keeper ≡ Some r → AreKnownIn r l.known;
  reads : (r : Repository) (log : List Taken) → g.R.Keeper.content l.keeper ≡ Some r → AreEntries r (take l.id-index l.ids) log → AreBounded (real_rules l.rules.anchor) log
      → g.R.Keeper.reads l.keeper ≤ g.R.Keeper.reads l.fn.keeper + judging_reads (real_rules l.rules.anchor) log;
  same : Undisturbed g.R.Keeper l.fn.keeper l.keeper;
  quiet : g.R.Keeper.faults l.keeper ≡ g.R.Keeper.faults l.fn.keeper;
}
