use Rattle.commands_log.proofs.ToldWorld.{told}
use Rattle.commands_log.proofs.laws.log_over_world.Goals as goal

pub returns : goal.returns
returns g c = told _ c.tells_of_history.ensures c.tells_of_log.ensures
