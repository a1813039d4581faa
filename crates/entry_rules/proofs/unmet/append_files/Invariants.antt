use Rattle.std.proofs.Common.{◌≡◌, ◌++◌, take}
use Rattle.entry_rules.proofs.unmet.append_files.Given as goal

abbrev pub invariant-files : goal.invariant-files
invariant-files l = l.list ≡ l.fn.list ++ take l.file-index l.files
