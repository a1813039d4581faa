use Rattle.policy_changes.proofs.LogNaming.{are_names}
use Rattle.policy_changes.proofs.log_laws.each_once.Goals as goal

pub returns : goal.returns
returns c = are_names
