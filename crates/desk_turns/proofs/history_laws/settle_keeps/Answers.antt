use Rattle.desk_turns.proofs.Settles.{settle_keeps}
use Rattle.desk_turns.proofs.history_laws.settle_keeps.Goals as goal

pub returns : goal.returns
returns g c = settle_keeps g.R.Keeper
