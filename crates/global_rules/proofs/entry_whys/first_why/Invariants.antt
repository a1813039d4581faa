use Rattle.std.proofs.Common.{◌≡◌, Option, Some, drop}
use Rattle.git_object.specs.Repository.{Repository}
use Rattle.keeper_api.specs.Undisturbed.{Undisturbed}
use Rattle.global_rules.specs.Whys.{IsFirstWhy}
use Rattle.global_rules.specs.declared.whys.GlobalWhy.{GlobalWhy}
use Rattle.global_rules.proofs.entry_whys.first_why.Given as goal

abbrev pub invariant-all : goal.invariant-all
invariant-all g l = record {
  rest : (r : Repository) → g.R.Keeper.content l.keeper ≡ Some r → (why : Option GlobalWhy) → IsFirstWhy r l.rules l.change l.paths (drop l.rule-index l.all) why → IsFirstWhy r l.rules l.change l.paths l.all why;
  same : Undisturbed g.R.Keeper l.fn.keeper l.keeper;
  quiet : g.R.Keeper.faults l.keeper ≡ g.R.Keeper.faults l.fn.keeper;
}
