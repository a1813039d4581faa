use Rattle.rule_delegations.proofs.Faultless.{faultless_where}
use Rattle.rule_delegations.proofs.laws.faultless_where.Goals as goal

pub returns : goal.returns
returns c = faultless_where
