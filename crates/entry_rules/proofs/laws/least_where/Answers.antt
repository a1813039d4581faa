use Rattle.entry_rules.proofs.Leasts.{least_is}
use Rattle.entry_rules.proofs.laws.least_where.Goals as goal

pub returns : goal.returns
returns c = λ files signers s t policy. least_is files signers s t policy
