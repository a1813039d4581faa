use Rattle.desk_http.proofs.Steps.{each_reply}
use Rattle.desk_http.proofs.laws.each_reply_is_step.Goals as goal

pub returns : goal.returns
returns g c = each_reply g.R.Keeper c.push_is_step.ensures
