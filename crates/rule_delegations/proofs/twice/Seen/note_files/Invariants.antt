use Rattle.std.proofs.Common.{take}
use Rattle.rule_delegations.specs.Assembling.{file_names}
use Rattle.rule_delegations.specs.Seen.{Notes}
use Rattle.rule_delegations.proofs.twice.Seen.note_files.Given as goal

abbrev pub invariant-loop-file : goal.invariant-loop-file
invariant-loop-file l = Notes l.fn.self l.self (file_names (take l.file-index l.files))
