use Rattle.commands_approve.proofs.ToldWorld.{told}
use Rattle.commands_approve.proofs.laws.approve_over_world.Goals as goal

pub returns : goal.returns
returns g c = told _ c.tells_of_approvals.ensures
