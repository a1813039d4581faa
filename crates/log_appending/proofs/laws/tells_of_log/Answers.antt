use Rattle.log_appending.proofs.ToldOutcome.{tells_of_log}
use Rattle.log_appending.proofs.laws.tells_of_log.Goals as goal

pub returns : goal.returns
returns g c = tells_of_log g.R.Keeper g.D.Disk
