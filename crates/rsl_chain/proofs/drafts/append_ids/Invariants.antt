use Rattle.std.proofs.Common.{◌≡◌, ◌++◌, map, take}
use Rattle.std.specs.List.{AllByRecursion}
use Rattle.git_object.specs.Ids.{IsId}
use Rattle.rsl_chain.specs.Drafts
use Rattle.rsl_chain.proofs.drafts.append_ids.Given as goal

abbrev pub invariant-ids : goal.invariant-ids
invariant-ids l = record {
  added : l.text ≡ l.fn.text ++ Drafts.joined (map Drafts.entry_line (take l.id-index l.ids));
  valid : AllByRecursion IsId (take l.id-index l.ids);
}
