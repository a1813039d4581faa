use Rattle.rule_delegations.proofs.Seeing.{added_or}
use Rattle.rule_delegations.proofs.cutting.add_unmarked.Goals as goal

pub returns : goal.returns
returns c = added_or c.args.name.now _ _ _ c.args.marked c.if-marked.false c.in_ok-copy.ensures c.in_ok-insert.ensures.updates.0
