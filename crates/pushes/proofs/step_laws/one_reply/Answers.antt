use Rattle.pushes.proofs.Replying.{one_reply}
use Rattle.pushes.proofs.step_laws.one_reply.Goals as goal

pub returns : goal.returns
returns c = one_reply
