use Rattle.desk_core.proofs.Policies.{policy_kept}
use Rattle.desk_core.proofs.lasting_laws.policy_stays.Goals as goal

pub returns : goal.returns
returns c = λ small large target policy grown e. policy_kept small large grown target policy e
