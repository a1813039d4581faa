use Rattle.verify_ref.proofs.Agreeing.{agree}
use Rattle.verify_ref.proofs.policy_laws.one_policy_in_force.Goals as goal

pub returns : goal.returns
returns c = agree
