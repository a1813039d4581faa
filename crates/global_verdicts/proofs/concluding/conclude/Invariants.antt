use Rattle.std.specs.Prelude.{List}
use Rattle.rsl_chain.specs.Entries.{Taken}
use Rattle.entry_rules.specs.RealRules.{real_rules}
use Rattle.global_verdicts.specs.Passing.{StandsFor}
use Rattle.global_verdicts.specs.Verdicts.{KeepFirst}
use Rattle.global_verdicts.proofs.concluding.conclude.Given as goal

abbrev pub invariant-places : goal.invariant-places
invariant-places l = (log : List Taken) → StandsFor log l.pass → KeepFirst (real_rules l.pass.engine.rules.anchor) log l.pass.name l.at
