use Rattle.judging.proofs.Readers.{skipped_reads}
use Rattle.judging.proofs.laws.skipped_where.Goals as goal

pub returns : goal.returns
returns g c = λ rules log i. skipped_reads rules log i
