use Rattle.std.proofs.Common.{arith}
use Rattle.rule_delegations.proofs.Spreading.{spread_end, spread_step}
use Rattle.rule_delegations.proofs.marking.come_upon.Goals as goal

pub loop-at-preserved : goal.loop-at-preserved
loop-at-preserved c =
    spread_step c.args.forest.now c.loop-at.marks.items _ c.loop-at.order.items _ c.loop-at.at c.index.result.now (let t = c.loop-at-test.true in let l = c.len.ensures in omega (arith, t, l)) c.index.ensures c.loop-at.invariant c.in_ok-mark_all_below.ensures.grows c.in_ok-mark_all_below.ensures.marked

pub returns : goal.returns
returns c = spread_end c.args.forest.now c.loop-at.marks.items c.loop-at.order.items c.loop-at.at c.requires.distinct (let t = c.loop-at-test.false in let l = c.len.ensures in omega (arith, t, l)) c.loop-at.invariant
