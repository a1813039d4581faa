use Rattle.demo.proofs.ToldWorld.{told}
use Rattle.demo.proofs.laws.demo_over_world.Goals as goal

pub returns : goal.returns
returns g c = told _ c.tells_of_demo.ensures
