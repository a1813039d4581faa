use Rattle.policy_epochs.proofs.LastPolicy.{last_policy}
use Rattle.policy_epochs.proofs.laws.policy_of_the_last_epoch.Goals as goal

pub returns : goal.returns
returns g c = λ checked succession n list is. last_policy checked succession n list is
