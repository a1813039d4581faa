use Rattle.approvals.proofs.Elsewhere.{all_else_kept}
use Rattle.approvals.proofs.attesting_laws.all_else_stays.Goals as goal

pub returns : goal.returns
returns c = all_else_kept
