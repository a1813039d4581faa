use Rattle.global_rules.proofs.Same.{one_why}
use Rattle.global_rules.proofs.laws.one_why.Goals as goal

pub returns : goal.returns
returns c = one_why
