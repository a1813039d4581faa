use Rattle.std.proofs.Common.{◌≡◌, map, take}
use Rattle.std.specs.BTreeMap as tree
use Rattle.octets.specs.BytesMap.{by_bytes}
use Rattle.rule_delegations.proofs.links.links_in.Given as goal

abbrev pub invariant-loop-rule : goal.invariant-loop-rule
invariant-loop-rule l = l.links ≡ map (λ rule. tree.get by_bytes l.places rule.name) (take l.rule-index l.rules)
