use Rattle.std.proofs.Common.{map, take}
use Rattle.rule_delegations.specs.Seen.{Notes}
use Rattle.rule_delegations.proofs.twice.Seen.note_rules.Given as goal

abbrev pub invariant-loop-rule : goal.invariant-loop-rule
invariant-loop-rule l = Notes l.fn.self l.self (map (λ rule. rule.name) (take l.rule-index l.rules))
