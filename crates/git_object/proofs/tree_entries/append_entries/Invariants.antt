use Rattle.std.proofs.Common.{◌≡◌, take, ◌++◌}
use Rattle.std.specs.List.{AllByRecursion}
use Rattle.git_object.specs.Ids.{IsId}
use Rattle.git_object.specs.Trees.{entries_text}
use Rattle.git_object.proofs.tree_entries.append_entries.Given as goal

abbrev pub invariant-entries : goal.invariant-entries
invariant-entries l = record {
  added : l.text ≡ l.fn.text ++ entries_text (take l.entry-index l.entries);
  valid : AllByRecursion (λ entry. IsId entry.id) (take l.entry-index l.entries);
}
