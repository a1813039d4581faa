use Rattle.std.proofs.Common.{◌≡◌, ◌*◌, ◌≤◌, take}
use Rattle.rule_delegations.specs.Assembling.{count_of_keys}
use Rattle.rule_delegations.proofs.counting.count_keys.Given as goal

abbrev pub invariant-loop-file : goal.invariant-loop-file
invariant-loop-file l = record { sum : l.count ≡ count_of_keys (take l.file-index l.files); few : l.count ≤ l.file-index * 4294967295 }
