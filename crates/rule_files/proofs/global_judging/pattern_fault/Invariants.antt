use Rattle.std.proofs.Common.{◌≡◌, drop}
use Rattle.rule_files.specs.GlobalFiles.{pattern_fault_from}
use Rattle.rule_files.proofs.global_judging.pattern_fault.Given as goal

abbrev pub invariant-rules : goal.invariant-rules
invariant-rules l = (pattern_fault_from l.at (drop l.rule-index l.rules) ≡ pattern_fault_from 0 l.rules) × (l.at ≡ l.rule-index)
