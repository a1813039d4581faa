use Rattle.std.proofs.Common.{◌≡◌, map, take}
use Rattle.policy_reading.specs.Validity.{policy_file}
use Rattle.policy_reading.proofs.judged_files.policy_files.Given as goal

abbrev pub invariant-all : goal.invariant-all
invariant-all l = l.made ≡ map (policy_file l.files) (take l.sealed-index l.all)
