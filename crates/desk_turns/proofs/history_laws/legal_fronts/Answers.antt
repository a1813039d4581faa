use Rattle.desk_turns.proofs.Fronts.{legal_fronts}
use Rattle.desk_turns.proofs.history_laws.legal_fronts.Goals as goal

pub returns : goal.returns
returns c = legal_fronts
