use Rattle.verify_ref.proofs.InEach.{in_each, one_of_epochs}
use Rattle.verify_ref.proofs.policy_laws.one_list_of_epochs.Goals as goal

pub returns : goal.returns
returns c = record { one = one_of_epochs; force = in_each }
