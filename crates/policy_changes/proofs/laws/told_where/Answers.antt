use Rattle.policy_changes.proofs.Beyond.{told_where}
use Rattle.policy_changes.proofs.laws.told_where.Goals as goal

pub returns : goal.returns
returns c = told_where
