use Rattle.std.proofs.Common.{◌≡◌, ◌++◌, take}
use Rattle.object_making.proofs.editing.append.Given as goal

abbrev pub invariant-more : goal.invariant-more
invariant-more l = l.list ≡ l.fn.list ++ take l.entry-index l.more
