use Rattle.desk_turns.proofs.Loads.{load_stands}
use Rattle.desk_turns.proofs.history_laws.load_stands.Goals as goal

pub returns : goal.returns
returns g c = load_stands g.R.Keeper
