use Rattle.global_rules.proofs.Order.{met_closed}
use Rattle.global_rules.proofs.ancestry_laws.closed.Goals as goal

pub returns : goal.returns
returns c = λ parents root n more all. met_closed parents root n more all
