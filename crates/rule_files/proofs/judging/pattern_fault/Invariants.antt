use Rattle.std.proofs.Common.{◌≡◌, drop}
use Rattle.rule_files.specs.Files.{pattern_fault_from}
use Rattle.rule_files.proofs.judging.pattern_fault.Given as goal

abbrev pub invariant-rules : goal.invariant-rules
invariant-rules l = (pattern_fault_from l.at (drop l.rule-index l.rule-items) ≡ pattern_fault_from 0 l.rule-items) × (l.at ≡ l.rule-index)
