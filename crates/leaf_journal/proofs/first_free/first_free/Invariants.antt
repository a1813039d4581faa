use Rattle.std.proofs.Common.{◌≡◌, ◌<◌, ℕ, get_or}
use Rattle.leaf_journal.proofs.first_free.first_free.Given as goal

abbrev pub invariant-loop-leaf : goal.invariant-loop-leaf
invariant-loop-leaf l = (k : ℕ) → k < l.leaf → get_or l.marks k 0 ≡ 0 → ⊥
