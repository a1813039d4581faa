use Rattle.desk_core.proofs.Holding.{gate_holds}
use Rattle.desk_core.proofs.gate_laws.gate_holds.Goals as goal

pub returns : goal.returns
returns c = gate_holds
