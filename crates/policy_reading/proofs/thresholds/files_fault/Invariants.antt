use Rattle.std.proofs.Common.{◌≡◌, drop}
use Rattle.policy_reading.specs.Validity.{files_fault}
use Rattle.policy_reading.proofs.thresholds.files_fault.Given as goal

abbrev pub invariant-all : goal.invariant-all
invariant-all l = files_fault l.root l.files l.all ≡ files_fault l.root l.files (drop l.sealed-index l.all)
