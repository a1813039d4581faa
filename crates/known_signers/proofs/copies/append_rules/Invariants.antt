use Rattle.std.proofs.Common.{◌≡◌, ◌++◌, take}
use Rattle.known_signers.proofs.copies.append_rules.Given as goal

abbrev pub invariant-rules : goal.invariant-rules
invariant-rules l = l.list ≡ l.fn.list ++ take l.rule-index l.rules
