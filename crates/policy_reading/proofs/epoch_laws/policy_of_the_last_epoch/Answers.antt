use Rattle.std.proofs.Common.{sym, length}
use Rattle.policy_epochs.proofs.LastPolicy.{last_policy}
use Rattle.policy_epochs.specs.Succession.{succession}
use Rattle.policy_reading.specs.InForce.{found_of}
use Rattle.policy_reading.proofs.epoch_laws.policy_of_the_last_epoch.Goals as goal

pub returns : goal.returns
returns c = λ anchor r entries list are. sym (last_policy (found_of r entries) (succession anchor) (length entries) list are)
