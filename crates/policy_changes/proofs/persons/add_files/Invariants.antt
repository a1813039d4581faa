use Rattle.std.proofs.Common.{◌≡◌, take}
use Rattle.std.specs.List.{fold}
use Rattle.policy_changes.specs.Names.{with_name}
use Rattle.policy_changes.specs.Persons.{file_holders}
use Rattle.policy_changes.proofs.persons.add_files.Given as goal

abbrev pub invariant-files : goal.invariant-files
invariant-files l = l.names ≡ fold with_name l.fn.names (file_holders l.keys (take l.file-index l.files))
