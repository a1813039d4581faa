use Rattle.commands_policy.proofs.ToldWorld.{told}
use Rattle.commands_policy.proofs.laws.policy_over_world.Goals as goal

pub returns : goal.returns
returns g c = told _ c.tells_of_policy.ensures
