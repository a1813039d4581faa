use Rattle.std.proofs.Common.{sym, ◌∙◌}
use Rattle.rule_delegations.proofs.Searched.{first_found, first_there, no_match_more, none_found}
use Rattle.rule_delegations.proofs.rules.Rules.first_reached.Goals as goal

pub returns-then-rule_matches-clause-first : goal.returns-then-rule_matches-clause-first
returns-then-rule_matches-clause-first c =
    first_found c.args.self.now (record { space = c.args.space; text = c.args.text.now }) c.rules-rule-items.result.now (rw (← c.self.view_is) c.rules-rule-items.ensures.value) c.loop-at.at c.rule-item.result
    c.loop-at-test.true c.rule-item.is c.loop-at.invariant (sym c.rule_matches.ensures ∙ c.if-rule_matches.true)

pub returns-then-rule_matches-clause-place : goal.returns-then-rule_matches-clause-place
returns-then-rule_matches-clause-place c =
    first_there c.args.self.now (record { space = c.args.space; text = c.args.text.now }) c.rules-rule-items.result.now (rw (← c.self.view_is) c.rules-rule-items.ensures.value) c.loop-at.at c.rule-item.result
    c.loop-at-test.true c.rule-item.is

pub loop-at-preserved : goal.loop-at-preserved
loop-at-preserved c = no_match_more _ c.rules-rule-items.result.now c.loop-at.at c.rule-item.result c.loop-at-test.true c.rule-item.is c.loop-at.invariant (sym c.rule_matches.ensures ∙ c.if-rule_matches.false)

pub returns-clause-first : goal.returns-clause-first
returns-clause-first c =
    none_found c.args.self.now (record { space = c.args.space; text = c.args.text.now }) c.rules-rule-items.result.now (rw (← c.self.view_is) c.rules-rule-items.ensures.value) c.loop-at.at c.loop-at-test.false c.loop-at.invariant
