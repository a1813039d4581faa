use Rattle.std.proofs.Common.{◌≡◌, map, take}
use Rattle.rule_files.specs.GlobalFiles.{rule_made}
use Rattle.rule_files.proofs.global_reading.make_rules.Given as goal

abbrev pub invariant-rules : goal.invariant-rules
invariant-rules l = l.made ≡ map rule_made (take l.rule-index l.rules)
