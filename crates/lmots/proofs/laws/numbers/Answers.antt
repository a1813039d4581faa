use Rattle.lmots.proofs.Numbers.{follow}
use Rattle.lmots.proofs.laws.numbers.Goals as goal

pub returns : goal.returns
returns c = follow c.args.kind
