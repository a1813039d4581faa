use Rattle.std.proofs.Common.{◌≡◌, take}
use Rattle.rule_files.specs.Files.{patterns_made}
use Rattle.rule_files.proofs.global_reading.make_patterns.Given as goal

abbrev pub invariant-texts : goal.invariant-texts
invariant-texts l = l.made ≡ patterns_made (take l.text-index l.texts)
