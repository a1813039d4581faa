use Rattle.std.proofs.Common.{◌≡◌, ◌++◌, take}
use Rattle.known_signers.proofs.copies.append_patterns.Given as goal

abbrev pub invariant-patterns : goal.invariant-patterns
invariant-patterns l = l.list ≡ l.fn.list ++ take l.pattern-index l.patterns
