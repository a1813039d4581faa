use Rattle.std.proofs.Common.{◌≡◌, ◌++◌, map}
use Rattle.policy_reading.specs.Metadata.{file_at}
use Rattle.policy_reading.proofs.found_files.add_found.Given as goal

abbrev pub invariant-found : goal.invariant-found
invariant-found l = l.files ++ map file_at l.stem-iterator ≡ l.fn.files ++ map file_at l.initial.stem-iterator
