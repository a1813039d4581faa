use Rattle.judged_logs.proofs.Later.{same_from}
use Rattle.judged_logs.proofs.later_laws.same_from.Goals as goal

pub returns : goal.returns
returns g c = λ first rules log number numbered some late. same_from first rules log numbered number some late
