use Rattle.pushes.proofs.LogGrowth.{push_grows}
use Rattle.pushes.proofs.step_laws.push_grows.Goals as goal

pub returns : goal.returns
returns c = push_grows
