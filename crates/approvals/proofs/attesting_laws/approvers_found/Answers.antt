use Rattle.approvals.proofs.Tied.{found_again}
use Rattle.approvals.proofs.attesting_laws.approvers_found.Goals as goal

pub returns : goal.returns
returns c = found_again
