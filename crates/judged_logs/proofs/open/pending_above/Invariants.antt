use Rattle.std.proofs.Common.{List}
use Rattle.rsl_chain.specs.Entries.{Taken}
use Rattle.judging.specs.Engines.{Stands}
use Rattle.judging.specs.Rules.{Rules}
use Rattle.judged_logs.proofs.Takes.{SoFar}
use Rattle.judged_logs.proofs.open.pending_above.Given as goal

abbrev pub invariant-places : goal.invariant-places
invariant-places g l = (rules : Rules g.row.P.Denot g.row.F.Denot) (log : List Taken) → Stands rules log l.engine → SoFar rules log l.above l.place l.found
