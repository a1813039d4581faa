use Rattle.std.proofs.Common.{◌≡◌, take}
use Rattle.std.specs.List.{fold}
use Rattle.policy_changes.specs.Words.{with_file}
use Rattle.policy_changes.proofs.said.add_files.Given as goal

abbrev pub invariant-files : goal.invariant-files
invariant-files l = l.says ≡ fold with_file l.fn.says (take l.file-index l.files)
