use Rattle.desk_core.proofs.Found.{approval_kept}
use Rattle.desk_core.proofs.lasting_laws.approvals_stay.Goals as goal

pub returns : goal.returns
returns c = λ small large attestations name from tree envelope grown e. approval_kept small large grown attestations name from tree envelope e
