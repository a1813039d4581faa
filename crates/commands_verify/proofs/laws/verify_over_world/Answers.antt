use Rattle.commands_verify.proofs.ToldWorld.{told}
use Rattle.commands_verify.proofs.laws.verify_over_world.Goals as goal

pub returns : goal.returns
returns g c = told _ c.tells_of_verify.ensures
