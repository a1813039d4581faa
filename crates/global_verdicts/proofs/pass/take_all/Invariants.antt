use Rattle.std.proofs.Common.{◌≡◌, Some, List, take}
use Rattle.git_object.specs.Repository.{Repository}
use Rattle.keeper_api.specs.Undisturbed.{Undisturbed}
use Rattle.rsl_chain.specs.Entries.{Taken}
use Rattle.entry_rules.specs.Learning.{AreKnownIn}
use Rattle.verify_ref.specs.Logs.{AreEntries}
use Rattle.global_verdicts.specs.Passing.{StandsFor}
use Rattle.global_verdicts.proofs.pass.take_all.Given as goal

abbrev pub invariant-ids : goal.invariant-ids
invariant-ids g l = record {
  so : (r : Repository) → g.R.Keeper.content l.keeper ≡ Some r → (log : List Taken) × AreEntries r (take l.id-index l.ids) log × StandsFor log l.pass;
  rules : l.pass.engine.rules ≡ l.fn.pass.engine.rules;
  name : l.pass.name ≡ l.fn.pass.name;
  known : (r : Repository) → g.R.Keeper.content l.keeper ≡ Some r → AreKnownIn r l.pass.engine.known;
  same : Undisturbed g.R.Keeper l.fn.keeper l.keeper;
  quiet : g.R.Keeper.faults l.keeper ≡ g.R.Keeper.faults l.fn.keeper;
}
