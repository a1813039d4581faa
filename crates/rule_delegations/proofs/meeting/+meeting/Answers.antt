use Rattle.std.proofs.Common.{arith}
use Rattle.rule_delegations.specs.Walks.{test_of}
use Rattle.rule_delegations.proofs.Tellings.{tells_all, tells_here, tells_nothing, tells_on}
use Rattle.rule_delegations.proofs.Turns.{rule_there}
use Rattle.rule_delegations.proofs.meeting.+meeting.Goals as goal

pub tell_file-returns-then-left-eq0 : goal.tell_file-returns-then-left-eq0
tell_file-returns-then-left-eq0 t c = tells_nothing c.args.forest.now (test_of c.args.asked.now) _ c.args.left c.args.file c.if-left-eq0.true

pub tell_file-loop-at-init : goal.tell_file-loop-at-init
tell_file-loop-at-init t c = tells_all c.args.forest.now (test_of c.args.asked.now) (record { space = c.args.space; text = c.args.text.now }) c.args.left c.args.file c.rules-rules.result.now c.if-left-eq0.false c.rules-rules.ensures.value

pub tell_file-tell_rule-requires : goal.tell_file-tell_rule-requires
tell_file-tell_rule-requires t c = (omega arith, rule_there c.args.forest.now c.args.file c.loop-at.at _ _ c.rules-rules.ensures.value c.loop-at-test.true c.index-rules-at.is)

pub tell_file-returns-in_default : goal.tell_file-returns-in_default
tell_file-returns-in_default t c =
    tells_here c.args.forest.now (test_of c.args.asked.now) (record { space = c.args.space; text = c.args.text.now }) c.args.left c.args.file c.rules-rules.result.now c.loop-at.at c.index-rules-at.result _
    c.loop-at-test.true c.index-rules-at.is c.loop-at.invariant c.tell_rule.ensures c.in_default.not-Passed

pub tell_file-loop-at-preserved : goal.tell_file-loop-at-preserved
tell_file-loop-at-preserved t c =
    tells_on c.args.forest.now (test_of c.args.asked.now) (record { space = c.args.space; text = c.args.text.now }) c.args.left c.args.file c.rules-rules.result.now c.loop-at.at c.index-rules-at.result _
    c.loop-at-test.true c.index-rules-at.is c.loop-at.invariant c.tell_rule.ensures c.in-Passed.is
