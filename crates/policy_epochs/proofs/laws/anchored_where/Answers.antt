use Rattle.policy_epochs.proofs.Following.{anchored}
use Rattle.policy_epochs.proofs.laws.anchored_where.Goals as goal

pub returns-clause-given : goal.returns-clause-given
returns-clause-given c = λ ids new. anchored ids new
