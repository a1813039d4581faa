use Rattle.desk_shops.proofs.Steps.{push_is_gate_step}
use Rattle.desk_shops.proofs.gate_laws.push_is_gate_step.Goals as goal

pub returns : goal.returns
returns g c = push_is_gate_step g.R.Keeper
