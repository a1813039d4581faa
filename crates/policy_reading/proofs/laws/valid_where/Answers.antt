use Rattle.policy_reading.proofs.Valids.{valid_where}
use Rattle.policy_reading.proofs.laws.valid_where.Goals as goal

pub returns : goal.returns
returns c = valid_where
