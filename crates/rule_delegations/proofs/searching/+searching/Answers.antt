use Rattle.std.proofs.Common.{arith}
use Rattle.rule_delegations.proofs.Turns.{adds_nothing, ends_here, goes_on, no_level, rule_there, starts, stops_here}
use Rattle.rule_delegations.proofs.searching.+searching.Goals as goal

pub search_file-returns-then-left-eq0-clause-added : goal.search_file-returns-then-left-eq0-clause-added
search_file-returns-then-left-eq0-clause-added t c = rw (no_level c.args.forest.now _ c.args.left c.args.file c.if-left-eq0.true) (adds_nothing _)

pub search_file-loop-at-init : goal.search_file-loop-at-init
search_file-loop-at-init t c = starts c.args.forest.now _ c.args.left c.args.file _ _ c.if-left-eq0.false c.rules-rules.ensures.value

pub search_file-search_rule-requires : goal.search_file-search_rule-requires
search_file-search_rule-requires t c = (omega arith, rule_there c.args.forest.now c.args.file c.loop-at.at _ _ c.rules-rules.ensures.value c.loop-at-test.true c.index-rules-at.is)

pub search_file-returns-then-branch-clause-added : goal.search_file-returns-then-branch-clause-added
search_file-returns-then-branch-clause-added t c = stops_here c.args.forest.now (record { space = c.args.space; text = c.args.text.now }) c.args.left c.args.file c.rules-rules.result.now c.args.found.now.items _ _ c.loop-at.at _ _ c.loop-at-test.true c.index-rules-at.is c.loop-at.invariant c.in_ok-search_rule.ensures.added c.if-branch.true

pub search_file-loop-at-preserved : goal.search_file-loop-at-preserved
search_file-loop-at-preserved t c = goes_on c.args.forest.now (record { space = c.args.space; text = c.args.text.now }) c.args.left c.args.file c.rules-rules.result.now c.args.found.now.items _ _ c.loop-at.at _ _ c.loop-at-test.true c.index-rules-at.is c.loop-at.invariant c.in_ok-search_rule.ensures.added c.if-branch.false

pub search_file-returns-clause-added : goal.search_file-returns-clause-added
search_file-returns-clause-added t c = ends_here c.args.forest.now (record { space = c.args.space; text = c.args.text.now }) c.args.left c.args.file c.rules-rules.result.now c.args.found.now.items _ c.loop-at.at c.loop-at-test.false c.loop-at.invariant
