use Rattle.approvals.proofs.Held.{are_held}
use Rattle.approvals.proofs.attesting_laws.repositories.Goals as goal

pub returns : goal.returns
returns c = are_held
