use Rattle.policy_epochs.proofs.Reading.{reads}
use Rattle.policy_epochs.proofs.laws.epochs_where.Goals as goal

pub returns : goal.returns
returns g c = λ checked succession n list is k. reads checked succession n list is k
