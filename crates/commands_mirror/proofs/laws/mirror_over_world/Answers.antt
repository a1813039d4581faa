use Rattle.commands_mirror.proofs.ToldWorld.{told}
use Rattle.commands_mirror.proofs.laws.mirror_over_world.Goals as goal

pub returns : goal.returns
returns g c = told _ c.tells_of_mirror.ensures
