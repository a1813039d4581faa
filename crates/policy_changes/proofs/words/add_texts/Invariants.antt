use Rattle.std.proofs.Common.{◌≡◌, ◌++◌, map, take}
use Rattle.policy_changes.proofs.words.add_texts.Given as goal

abbrev pub invariant-items : goal.invariant-items
invariant-items g l = l.texts ≡ l.fn.texts ++ map g.T.Worded.words (take l.item-index l.items)
