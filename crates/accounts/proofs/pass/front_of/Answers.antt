use Rattle.accounts.proofs.Walked.{front_is}
use Rattle.accounts.proofs.pass.front_of.Goals as goal

pub returns : goal.returns
returns c = rw (c.split_at.ensures.front, c.min.ensures) (front_is c.args.count c.args.ids.now)
