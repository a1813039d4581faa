use Rattle.std.proofs.Common.{sym, ◌∙◌}
use Rattle.rsl_chain.proofs.DraftLemmas.{front_at_gap, front_at_tail, front_next, is_filled}
use Rattle.rsl_chain.proofs.drafts.append_front.Goals as goal

pub returns-then-is_empty : goal.returns-then-is_empty
returns-then-is_empty c = λ line.
    front_at_gap c.args.text.now c.args.unsigned.now c.lines.text c.lines.rest.now c.in-Some.line.now c.in-Some.more.now line (c.lines.invariant line) c.in-Some.ensures.found
    (sym c.is_empty.ensures ∙ c.if-is_empty.true)

pub lines-preserved : goal.lines-preserved
lines-preserved c = λ line.
    front_next c.args.text.now c.args.unsigned.now c.lines.text c.lines.rest.now c.in-Some.line.now c.in-Some.more.now c.append_line.new.text line (c.lines.invariant line) c.in-Some.ensures.found
    c.in-Some.ensures.first (is_filled c.in-Some.line.now (sym c.is_empty.ensures ∙ c.if-is_empty.false)) c.in_ok-append_line.ensures

pub returns : goal.returns
returns c = λ line.
    front_at_tail c.args.text.now c.args.unsigned.now c.lines.text c.lines.rest.now line (c.lines.invariant line) c.in_default.ensures.none
