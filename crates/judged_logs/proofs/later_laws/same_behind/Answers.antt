use Rattle.judged_logs.proofs.Later.{same_behind}
use Rattle.judged_logs.proofs.later_laws.same_behind.Goals as goal

pub returns : goal.returns
returns g c = λ first rules log. same_behind first rules log
