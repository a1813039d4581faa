use Rattle.std.proofs.Common.{List}
use Rattle.rsl_chain.specs.Entries.{Taken}
use Rattle.entry_rules.specs.RealRules.{real_rules}
use Rattle.judged_logs.specs.Walking.{IsWalked}
use Rattle.accounts.specs.Judging.{StandsFor}
use Rattle.accounts.proofs.mending.way_back.Given as goal

abbrev pub invariant-back : goal.invariant-back
invariant-back l = (log : List Taken) → StandsFor log l.judged → IsWalked (real_rules l.judged.engine.rules.anchor) log l.name l.fn.number l.way.at l.way.from l.way.found

abbrev pub decreases-back : goal.decreases-back
decreases-back l = l.way.at
