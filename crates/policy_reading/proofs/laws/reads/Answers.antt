use Rattle.policy_reading.proofs.Counting.{whole_reads}
use Rattle.policy_reading.proofs.laws.reads.Goals as goal

pub returns : goal.returns
returns c = whole_reads
