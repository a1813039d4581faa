use Rattle.std.proofs.Common.{◌+◌, ◌-◌, length}
use Rattle.rule_delegations.specs.Marks.{count_unmarked}
use Rattle.rule_delegations.proofs.Spreading.{IsSpread}
use Rattle.rule_delegations.proofs.marking.come_upon.Given as goal

abbrev pub invariant-loop-at : goal.invariant-loop-at
invariant-loop-at l = IsSpread l.forest l.marks.items l.order.items l.at

-- what is unmarked or was not looked at yet
abbrev pub decreases-loop-at : goal.decreases-loop-at
decreases-loop-at l = count_unmarked l.marks.items + length l.order.items - l.at
