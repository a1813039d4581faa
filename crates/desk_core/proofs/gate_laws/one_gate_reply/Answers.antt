use Rattle.desk_core.proofs.Holding.{one_gate_reply}
use Rattle.desk_core.proofs.gate_laws.one_gate_reply.Goals as goal

pub returns : goal.returns
returns c = one_gate_reply
