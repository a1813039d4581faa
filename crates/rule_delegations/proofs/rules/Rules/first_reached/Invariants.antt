use Rattle.rule_delegations.proofs.Searched.{NoMatch}
use Rattle.rule_delegations.proofs.rules.Rules.first_reached.Given as goal

abbrev pub invariant-loop-at : goal.invariant-loop-at
invariant-loop-at l = NoMatch (record { space = l.space; text = l.text }) l.rule-items l.at
