use Rattle.std.proofs.Common.{length}
use Rattle.rsl_chain.proofs.LineLemmas.{IsOn}
use Rattle.rsl_chain.proofs.reading.read_lines.Given as goal

abbrev pub invariant-lines : goal.invariant-lines
invariant-lines l = IsOn l.body l.keep l.place l.parts l.rest l.number

abbrev pub decreases-lines : goal.decreases-lines
decreases-lines l = length l.rest
