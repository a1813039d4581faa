use Rattle.pushes.proofs.Reached.{walk_reaches}
use Rattle.pushes.proofs.making_laws.reached.Goals as goal

pub returns : goal.returns
returns c = walk_reaches
