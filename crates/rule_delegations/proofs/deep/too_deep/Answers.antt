use Rattle.rule_delegations.proofs.Deepening.{none_deep}
use Rattle.rule_delegations.proofs.deep.too_deep.Goals as goal

pub returns-in_default : goal.returns-in_default
returns-in_default c = none_deep c.args.forest.now c.requires (rw c.in_default.is at c.deep_file.ensures)
