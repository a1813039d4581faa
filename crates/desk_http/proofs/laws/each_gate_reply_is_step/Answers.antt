use Rattle.desk_http.proofs.GateReplies.{each_gate_reply}
use Rattle.desk_http.proofs.laws.each_gate_reply_is_step.Goals as goal

pub returns : goal.returns
returns g c = each_gate_reply g.R.Keeper c.push_is_gate_step.ensures
