use Rattle.commands_policy.proofs.ToldOutcome.{tells_of_policy}
use Rattle.commands_policy.proofs.laws.tells_of_policy.Goals as goal

pub returns : goal.returns
returns g c = tells_of_policy g.R.Keeper g.D.Disk
