use Rattle.std.proofs.Common.{take}
use Rattle.rule_delegations.specs.Assembling.{rule_names}
use Rattle.rule_delegations.specs.Seen.{Notes}
use Rattle.rule_delegations.proofs.twice.Seen.note_all_rules.Given as goal

abbrev pub invariant-loop-file : goal.invariant-loop-file
invariant-loop-file l = Notes l.fn.self l.self (rule_names (take l.file-index l.files))
