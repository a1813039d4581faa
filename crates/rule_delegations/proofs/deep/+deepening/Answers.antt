use Rattle.std.proofs.Common.{sym, ◌∙◌, None, Some}
use Rattle.rule_delegations.proofs.Deepening.{alone, below_link, below_none, deep_end, deep_here, deep_later}
use Rattle.rule_delegations.proofs.deep.+deepening.Goals as goal

pub deep_file-returns-in-Some : goal.deep_file-returns-in-Some
deep_file-returns-in-Some t c = c.loop-at.invariant (Some c.in-Some.end) (deep_here c.args.forest.now c.requires.distinct c.args.file c.loop-at.at c.args.left c.in-Some.end c.in-Some.ensures)

pub deep_file-loop-at-preserved : goal.deep_file-loop-at-preserved
deep_file-loop-at-preserved t c found rest = c.loop-at.invariant found (deep_later c.args.forest.now c.requires.distinct c.args.file c.loop-at.at c.args.left found c.in_default.ensures rest)

pub deep_file-returns : goal.deep_file-returns
deep_file-returns t c = c.loop-at.invariant None (deep_end c.args.forest.now c.requires.distinct c.args.file c.loop-at.at c.args.left _ c.rules-at-end.ensures.value c.loop-at-test.false)

pub deep_rule-returns-then-left-eq1 : goal.deep_rule-returns-then-left-eq1
deep_rule-returns-then-left-eq1 t c = alone c.args.forest.now c.requires.distinct c.args.place c.args.left c.requires.rule c.if-left-eq1.true

pub deep_rule-returns-in-Some : goal.deep_rule-returns-in-Some
deep_rule-returns-in-Some t c =
    below_link c.args.forest.now c.requires.distinct c.args.place c.args.left c.in-Some.file c.deep_file.result c.if-left-eq1.false c.requires.some (sym c.below.ensures ∙ c.in-Some.is) c.deep_file.ensures

pub deep_rule-returns-in-None : goal.deep_rule-returns-in-None
deep_rule-returns-in-None t c = below_none c.args.forest.now c.requires.distinct c.args.place c.args.left c.if-left-eq1.false (sym c.below.ensures ∙ c.in-None.is)
