use Rattle.commands_approve.proofs.ToldOutcome.{tells_of_approvals}
use Rattle.commands_approve.proofs.laws.tells_of_approvals.Goals as goal

pub returns : goal.returns
returns g c = tells_of_approvals g.R.Keeper g.D.Disk
