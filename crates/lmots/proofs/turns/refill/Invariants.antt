use Rattle.std.proofs.Common.{◌≡◌, ℕ, ◌<◌, length, slice_index}
use Rattle.lmots.proofs.turns.refill.Given as goal

abbrev pub invariant-lanes : goal.invariant-lanes
invariant-lanes l = (length l.lanes ≡ 8) × ((k : ℕ) → k < 8 → slice_index l.lanes k < l.count)
