use Rattle.std.proofs.Common.{ap, ◌∙◌}
use Rattle.std.specs.Ordering.{is_lt}
use Rattle.git_object.specs.EntryParts.{entry_of}
use Rattle.git_object.proofs.TreeLemmas.{last_decides}
use Rattle.git_object.proofs.tree_entries.is_greater.Goals as goal

pub returns-in-Some : goal.returns-in-Some
returns-in-Some c =
    let entry = c.args.entry.now in
    last_decides c.args.entries.now c.in-Some.last.now (entry_of entry.mode entry.name.now entry.id) c.is_lt.result c.requires c.in-Some.ensures.value
    (c.is_lt.ensures ∙ ap is_lt c.compare_entry.ensures)
