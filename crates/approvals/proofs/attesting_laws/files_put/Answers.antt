use Rattle.approvals.proofs.Found.{file_put}
use Rattle.approvals.proofs.attesting_laws.files_put.Goals as goal

pub returns : goal.returns
returns c = file_put
