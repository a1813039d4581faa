use Rattle.std.proofs.Common.{arith}
use Rattle.object_lanes.proofs.Grouped.{first_ids}
use Rattle.object_lanes.proofs.groups.group_ids.Goals as goal

pub returns-then-lanes_win : goal.returns-then-lanes_win
returns-then-lanes_win c =
    first_ids c.args.group.now c.by_lanes.result (omega (arith, c.requires, c.by_lanes.ensures.long)) (λ i lt. c.by_lanes.ensures.each i (omega (arith, lt, c.requires)) lt)

pub returns-else-lanes_win : goal.returns-else-lanes_win
returns-else-lanes_win c =
    first_ids c.args.group.now c.one_by_one.result (omega (arith, c.requires, c.one_by_one.ensures.long)) (λ i lt. c.one_by_one.ensures.each i (omega (arith, lt, c.requires)) lt)
