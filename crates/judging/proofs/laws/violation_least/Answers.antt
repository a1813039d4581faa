use Rattle.judging.proofs.Readers.{none_pending_reads, pending_reads}
use Rattle.judging.proofs.laws.violation_least.Goals as goal

pub returns-clause-some : goal.returns-clause-some
returns-clause-some g c = λ rules log name i fault h f. pending_reads rules log name i fault h f

pub returns-clause-none : goal.returns-clause-none
returns-clause-none g c = λ rules log name h j a b own. none_pending_reads rules log name h j a b own
