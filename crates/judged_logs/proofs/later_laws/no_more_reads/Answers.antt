use Rattle.judged_logs.proofs.Later.{reads_less}
use Rattle.judged_logs.proofs.later_laws.no_more_reads.Goals as goal

pub returns : goal.returns
returns g c = λ first rules log t. reads_less first rules log t
