use Rattle.std.proofs.Common.{sym, ◌∙◌}
use Rattle.rsl_chain.proofs.LineLemmas.{on_bad, on_next, on_short}
use Rattle.rsl_chain.proofs.reading.read_lines.Goals as goal

pub returns-in_default-2-clause-bad : goal.returns-in_default-2-clause-bad
returns-in_default-2-clause-bad c =
    on_bad c.args.body.now c.args.keep c.lines.place c.lines.parts c.lines.rest.now c.lines.number c.in-Some.line.now c.in-Some.more.now c.lines.invariant
    c.in-Some.ensures.found c.in-Some.ensures.first (sym c.in_ok-next.ensures ∙ c.in_default-2.is)

pub lines-preserved : goal.lines-preserved
lines-preserved c =
    on_next c.args.body.now c.args.keep c.lines.place c.lines.parts c.lines.rest.now c.lines.number c.in-Some.line.now c.in-Some.more.now c.in-Some-2.next c.put.new.parts c.lines.invariant
    c.in-Some.ensures.found c.in-Some.ensures.first (sym c.in_ok-next.ensures ∙ c.in-Some-2.is) c.in_ok-put.ensures.kept c.in_ok-put.ensures.spared

pub returns-then-not-ends-clause-bad : goal.returns-then-not-ends-clause-bad
returns-then-not-ends-clause-bad c =
    on_short c.args.body.now c.args.keep c.lines.place c.lines.parts c.lines.rest.now c.lines.number c.lines.invariant
    c.in_default.ensures.none (sym c.ends.ensures ∙ c.if-not-ends.true)
