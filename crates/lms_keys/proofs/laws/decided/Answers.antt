use Rattle.lms_keys.proofs.Deciding.{decided}
use Rattle.lms_keys.proofs.laws.decided.Goals as goal

pub returns : goal.returns
returns c = λ public message s. decided public message s
