use Rattle.evidence.specs.Dossiers.{bytes_in}
use Rattle.evidence.proofs.Breaking.{spelled_by}
use Rattle.evidence.proofs.dossiers.Dossier.read.Goals as goal

pub returns-in_err-public-clause-spelled : goal.returns-in_err-public-clause-spelled
returns-in_err-public-clause-spelled c = λ _.
    spelled_by c.args.bytes.now (bytes_in c.in-Ok.parts.0) c.in-Ok.parts.1.now c.in-Ok.parts.2.now c.in-Ok.ensures.found

pub returns-in_err-left-clause-spelled : goal.returns-in_err-left-clause-spelled
returns-in_err-left-clause-spelled c = λ _.
    spelled_by c.args.bytes.now (bytes_in c.in-Ok.parts.0) c.in-Ok.parts.1.now c.in-Ok.parts.2.now c.in-Ok.ensures.found

pub returns-in_err-right-clause-spelled : goal.returns-in_err-right-clause-spelled
returns-in_err-right-clause-spelled c = λ _.
    spelled_by c.args.bytes.now (bytes_in c.in-Ok.parts.0) c.in-Ok.parts.1.now c.in-Ok.parts.2.now c.in-Ok.ensures.found
