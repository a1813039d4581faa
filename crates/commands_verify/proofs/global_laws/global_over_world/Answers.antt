use Rattle.commands_verify.proofs.GlobalToldWorld.{told}
use Rattle.commands_verify.proofs.global_laws.global_over_world.Goals as goal

pub returns : goal.returns
returns g c = told _ c.tells_of_global.ensures
