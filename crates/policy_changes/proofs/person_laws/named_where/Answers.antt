use Rattle.policy_changes.proofs.Naming.{named_where}
use Rattle.policy_changes.proofs.person_laws.named_where.Goals as goal

pub returns : goal.returns
returns c = named_where
