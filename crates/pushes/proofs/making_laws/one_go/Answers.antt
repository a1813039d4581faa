use Rattle.pushes.proofs.OneMakings.{one_go}
use Rattle.pushes.proofs.making_laws.one_go.Goals as goal

pub returns : goal.returns
returns c = one_go
