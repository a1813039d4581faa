use Rattle.std.proofs.Common.{◌≡◌, ◌++◌, take}
use Rattle.policy_changes.specs.Words.{each_words}
use Rattle.policy_changes.proofs.words.add_each.Given as goal

abbrev pub invariant-items : goal.invariant-items
invariant-items g l = l.text ≡ l.fn.text ++ each_words g.T.Worded.words (take l.item-index l.items)
