use Rattle.std.proofs.Common.{◌≡◌, take, ◌++◌}
use Rattle.std.specs.List.{flat_map}
use Rattle.keeper_directory.specs.Journals.{ref_line}
use Rattle.keeper_directory.proofs.journals.append_ref_lines.Given as goal

abbrev pub invariant-changes : goal.invariant-changes
invariant-changes l = l.text ≡ l.fn.text ++ flat_map ref_line (take l.change-index l.changes)
