use Rattle.policy_reading.specs.Deciding.{first_fault-is}
use Rattle.policy_reading.proofs.laws.first_fault.Goals as goal

pub returns : goal.returns
returns c = first_fault-is
