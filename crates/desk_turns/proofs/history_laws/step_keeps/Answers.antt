use Rattle.desk_turns.proofs.Keeps.{step_keeps}
use Rattle.desk_turns.proofs.history_laws.step_keeps.Goals as goal

pub returns : goal.returns
returns g c = step_keeps g.R.Keeper
