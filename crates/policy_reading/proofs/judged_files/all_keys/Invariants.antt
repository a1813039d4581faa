use Rattle.std.proofs.Common.{◌≡◌, take}
use Rattle.policy_reading.specs.Validity.{all_keys}
use Rattle.policy_reading.proofs.judged_files.all_keys.Given as goal

abbrev pub invariant-files : goal.invariant-files
invariant-files l = l.all ≡ all_keys l.root (take l.file-index l.files)
