use Rattle.judging.proofs.Readers.{no_prior_reads, prior_reads}
use Rattle.judging.proofs.laws.prior_greatest.Goals as goal

pub returns-clause-some : goal.returns-clause-some
returns-clause-some g c = λ rules log name i h. prior_reads rules log name i h

pub returns-clause-none : goal.returns-clause-none
returns-clause-none g c = λ rules log name h j a b own. no_prior_reads rules log name h j a b own
