use Rattle.std.proofs.Common.{arith}
use Rattle.rule_delegations.proofs.Spreading.{below_more, grows_then, link_early}
use Rattle.rule_delegations.proofs.marking.mark_all_below.Goals as goal

pub loop-at-preserved : goal.loop-at-preserved
loop-at-preserved c = record {
  grows = grows_then _ _ _ _ _ _ _ _ (λ f link. (c.loop-at.at, link)) c.loop-at.invariant.grows c.in_ok-mark_below.ensures.grows;
  below = below_more c.args.forest.now c.args.file c.loop-at.at c.loop-at.marks.items _ c.in_ok-mark_below.ensures.grows.kept c.loop-at.invariant.below c.in_ok-mark_below.ensures.marked;
}

pub returns-clause-marked : goal.returns-clause-marked
returns-clause-marked c at other link =
    let early = link_early c.args.forest.now c.args.file at other _ c.rules-at-end.ensures.value link in
    let end = c.loop-at-test.false in
    c.loop-at.invariant.below at other (omega (arith, early, end)) link
