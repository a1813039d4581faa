use Rattle.std.proofs.Common.{◌≡◌, take, ◌++◌}
use Rattle.std.specs.List.{flat_map}
use Rattle.keeper_directory.specs.Journals.{object_line}
use Rattle.keeper_directory.proofs.journals.append_object_lines.Given as goal

abbrev pub invariant-ids : goal.invariant-ids
invariant-ids l = l.text ≡ l.fn.text ++ flat_map object_line (take l.id-index l.ids)
