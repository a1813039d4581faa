use Rattle.desk_http.proofs.Ends.{nobody_served}
use Rattle.desk_http.proofs.serving.unserved.Goals as goal

pub returns-clause-ends : goal.returns-clause-ends
returns-clause-ends c = nobody_served c.new.result.items c.args.fault c.new.ensures.items
