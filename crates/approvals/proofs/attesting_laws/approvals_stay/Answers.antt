use Rattle.approvals.proofs.Tied.{stays_elsewhere}
use Rattle.approvals.proofs.attesting_laws.approvals_stay.Goals as goal

pub returns : goal.returns
returns c = stays_elsewhere
