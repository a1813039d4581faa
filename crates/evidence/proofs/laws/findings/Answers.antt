use Rattle.evidence.proofs.Found.{findings}
use Rattle.evidence.proofs.laws.findings.Goals as goal

pub returns : goal.returns
returns c = findings
