use Rattle.rule_delegations.proofs.Lawful.{schema_one_same}
use Rattle.rule_delegations.proofs.laws.schema_one_same.Goals as goal

pub returns : goal.returns
returns c = schema_one_same
