use Rattle.policy_reading.proofs.Joining.{joins}
use Rattle.policy_reading.proofs.epoch_laws.one_more_epoch.Goals as goal

pub returns : goal.returns
returns c = joins
