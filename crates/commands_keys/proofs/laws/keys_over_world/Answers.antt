use Rattle.commands_keys.proofs.ToldWorld.{told}
use Rattle.commands_keys.proofs.laws.keys_over_world.Goals as goal

pub returns : goal.returns
returns g c = told _ c.tells_of_keys.ensures
