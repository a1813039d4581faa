use Rattle.evidence.proofs.Breaking.{one_dossier}
use Rattle.evidence.proofs.laws.one_dossier.Goals as goal

pub returns : goal.returns
returns c = one_dossier
