use Rattle.std.proofs.Common.{◌≡◌, ◌≤◌, ◌+◌, Some, List, take}
use Rattle.std.specs.List.{AllByRecursion}
use Rattle.git_object.specs.Repository.{Repository}
use Rattle.keeper_api.specs.Undisturbed.{Undisturbed}
use Rattle.rsl_chain.specs.Entries.{Taken}
use Rattle.entry_rules.specs.RealRules.{real_rules}
use Rattle.entry_rules.specs.Learning.{AreKnownIn}
use Rattle.verify_ref.specs.Logs.{AreEntries}
use Rattle.verify_ref.specs.Reading.{AreBounded, judging_reads}
use Rattle.accounts.specs.Judging.{IsOwn}
use Rattle.accounts.specs.Later.{StandsFrom}
use Rattle.accounts.proofs.later_pass.take_all.Given as goal

abbrev pub invariant-ids : goal.invariant-ids
invariant-ids g l = record {
  so : (r : Repository) → g.R.Keeper.content l.keeper ≡ Some r → (log : List Taken) × AreEntries r (take l.id-index l.ids) log × AllByRecursion (IsOwn r) log × StandsFrom log l.judged;
  first : l.judged.engine.first ≡ l.fn.judged.engine.first;
  rules : l.judged.engine.rules ≡ l.fn.judged.engine.rules;
  known : (r : Repository) → g.R.Keeper.content l.keeper ≡ Some r → AreKnownIn r l.judged.engine.known;
  reads : (r : Repository) (log : List Taken) → g.R.Keeper.content l.keeper ≡ Some r → AreEntries r (take l.id-index l.ids) log → AreBounded (real_rules l.fn.judged.engine.rules.anchor) log
      → g.R.Keeper.reads l.keeper ≤ g.R.Keeper.reads l.fn.keeper + judging_reads (real_rules l.fn.judged.engine.rules.anchor) log;
  same : Undisturbed g.R.Keeper l.fn.keeper l.keeper;
  quiet : g.R.Keeper.faults l.keeper ≡ g.R.Keeper.faults l.fn.keeper;
}
