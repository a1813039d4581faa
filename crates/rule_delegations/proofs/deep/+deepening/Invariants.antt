use Rattle.std.proofs.Common.{◌+◌, ◌*◌, Option}
use Rattle.rule_delegations.specs.declared.places.RuleRef.{RuleRef}
use Rattle.rule_delegations.specs.Deep.{BeginsIn, IsFirstEnd}
use Rattle.rule_delegations.proofs.deep.+deepening.Given as goal

abbrev pub decreases-deep_file : goal.decreases-deep_file
decreases-deep_file l = 2 * l.left + 1

abbrev pub decreases-deep_rule : goal.decreases-deep_rule
decreases-deep_rule l = 2 * l.left

-- who finds the first from here on has found the first
abbrev pub invariant-deep_file-loop-at : goal.invariant-deep_file-loop-at
invariant-deep_file-loop-at l = (found : Option RuleRef) → IsFirstEnd (BeginsIn l.forest l.file l.at l.left) found → IsFirstEnd (BeginsIn l.forest l.file 0 l.left) found
