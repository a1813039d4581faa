use Rattle.global_rules.proofs.Order.{one}
use Rattle.global_rules.proofs.ancestry_laws.one_descent.Goals as goal

pub returns : goal.returns
returns c = one
