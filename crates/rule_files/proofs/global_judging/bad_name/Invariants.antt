use Rattle.std.proofs.Common.{◌≡◌, [], drop, take}
use Rattle.rule_files.specs.GlobalFiles.{bad_name_from}
use Rattle.rule_files.proofs.global_judging.bad_name.Given as goal

abbrev pub invariant-rules : goal.invariant-rules
invariant-rules l = (bad_name_from (take l.at l.rules) (drop l.at l.rules) ≡ bad_name_from [] l.rules) × (l.at ≡ l.rule-index)
