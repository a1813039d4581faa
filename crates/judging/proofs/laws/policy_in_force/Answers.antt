use Rattle.judging.proofs.Forces.{force_reads, no_force_reads}
use Rattle.judging.proofs.laws.policy_in_force.Goals as goal

pub returns-clause-some : goal.returns-clause-some
returns-clause-some g c = λ rules log policy h. force_reads rules log policy h

pub returns-clause-none : goal.returns-clause-none
returns-clause-none g c = λ rules log h j t a b there own. no_force_reads rules log h j t a b there own
