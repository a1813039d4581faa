use Rattle.policy_epochs.proofs.LastPolicy.{one_list}
use Rattle.policy_epochs.proofs.laws.one_epoch_list.Goals as goal

pub returns : goal.returns
returns g c = λ checked succession n. one_list checked succession n
