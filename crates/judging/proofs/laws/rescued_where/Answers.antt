use Rattle.judging.proofs.Readers.{rescued_reads}
use Rattle.judging.proofs.laws.rescued_where.Goals as goal

pub returns : goal.returns
returns g c = λ rules log b. rescued_reads rules log b
