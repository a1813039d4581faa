use Rattle.judged_logs.proofs.Mending.{is_no_way}
use Rattle.judged_logs.proofs.laws.no_way.Goals as goal

pub returns : goal.returns
returns g c = λ rules log name b. is_no_way rules log name b
