use Rattle.judging.proofs.Readers.{fault_reads}
use Rattle.judging.proofs.laws.fault_where.Goals as goal

pub returns : goal.returns
returns g c = λ rules log i t there. fault_reads rules log i t there
