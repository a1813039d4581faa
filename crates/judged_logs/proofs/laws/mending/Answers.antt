use Rattle.judged_logs.proofs.Mending.{is_mending}
use Rattle.judged_logs.proofs.laws.mending.Goals as goal

pub returns : goal.returns
returns g c = λ rules log name b. is_mending rules log name b
