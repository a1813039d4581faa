use Rattle.pushes.proofs.OneMakings.{one_making}
use Rattle.pushes.proofs.making_laws.one_making.Goals as goal

pub returns : goal.returns
returns c = one_making
