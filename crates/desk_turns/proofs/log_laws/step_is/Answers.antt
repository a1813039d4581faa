use Rattle.desk_turns.proofs.StepLaws.{step_is}
use Rattle.desk_turns.proofs.log_laws.step_is.Goals as goal

pub returns : goal.returns
returns g c = step_is g.R.Keeper
