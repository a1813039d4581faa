use Rattle.std.proofs.Common.{arith}
use Rattle.rule_delegations.proofs.Offcuts.{first_cut, off_more}
use Rattle.rule_delegations.proofs.cutting.cut_off.Goals as goal

pub loop-at-preserved : goal.loop-at-preserved
loop-at-preserved c =
    off_more c.args.files.now c.args.marks.now _ _ c.loop-at.at c.index-files-at.result c.is_marked.result c.loop-at-test.true c.index-files-at.is c.is_marked.ensures c.in_ok-add_unmarked.ensures c.loop-at.invariant

pub returns : goal.returns
returns c =
    first_cut c.args.files.now c.args.marks.now c.requires.distinct c.requires.marked c.loop-at.names c.loop-at.at c.pop_first.result (let f = c.loop-at-test.false in let e = c.loop-at.auto.at-end in omega (arith, f, e)) c.loop-at.invariant
    c.pop_first.ensures.variant.1 (λ name is. rw is at c.pop_first.ensures.member) (λ name is. rw is at c.pop_first.ensures.least)
