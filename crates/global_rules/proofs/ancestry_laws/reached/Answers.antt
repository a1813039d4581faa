use Rattle.global_rules.proofs.Reaching.{order_of_reached}
use Rattle.global_rules.proofs.ancestry_laws.reached.Goals as goal

pub returns : goal.returns
returns c = order_of_reached
