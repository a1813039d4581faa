use Rattle.policy_epochs.proofs.Following.{follows}
use Rattle.policy_epochs.proofs.laws.follows_where.Goals as goal

pub returns : goal.returns
returns c = λ anchor old new. follows old new
