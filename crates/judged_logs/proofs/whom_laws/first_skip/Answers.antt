use Rattle.judged_logs.proofs.Firsts.{first_skip}
use Rattle.judged_logs.proofs.whom_laws.first_skip.Goals as goal

pub returns : goal.returns
returns g c = λ rules log i. first_skip rules log i
