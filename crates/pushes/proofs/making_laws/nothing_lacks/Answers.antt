use Rattle.pushes.proofs.Lacking.{nothing_lacks}
use Rattle.pushes.proofs.making_laws.nothing_lacks.Goals as goal

pub returns : goal.returns
returns c = nothing_lacks
