use Rattle.std.proofs.Common.{◌≡◌, take, ◌++◌}
use Rattle.std.specs.List.{AllByRecursion, flat_map}
use Rattle.git_object.specs.Ids.{IsId}
use Rattle.git_object.specs.HeaderLines.{id_line}
use Rattle.git_object.proofs.header_lines.append_id_lines.Given as goal

abbrev pub invariant-ids : goal.invariant-ids
invariant-ids l = record {
  added : l.text ≡ l.fn.text ++ flat_map (id_line l.word) (take l.id-index l.ids);
  valid : AllByRecursion IsId (take l.id-index l.ids);
}
