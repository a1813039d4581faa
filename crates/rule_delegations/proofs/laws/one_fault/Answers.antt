use Rattle.rule_delegations.proofs.Lawful.{one_fault}
use Rattle.rule_delegations.proofs.laws.one_fault.Goals as goal

pub returns : goal.returns
returns c = one_fault
