use Rattle.approvals.proofs.Signing.{signers_are}
use Rattle.approvals.proofs.laws.signers_where.Goals as goal

pub returns : goal.returns
returns c = λ envelope keys id. signers_are envelope keys id
