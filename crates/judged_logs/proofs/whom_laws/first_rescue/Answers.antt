use Rattle.judged_logs.proofs.Firsts.{first_rescue}
use Rattle.judged_logs.proofs.whom_laws.first_rescue.Goals as goal

pub returns : goal.returns
returns g c = λ rules log b. first_rescue rules log b
