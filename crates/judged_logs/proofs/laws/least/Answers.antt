use Rattle.judged_logs.proofs.Mending.{is_least}
use Rattle.judged_logs.proofs.laws.least.Goals as goal

pub returns : goal.returns
returns g c = λ rules log name b. is_least rules log name b
