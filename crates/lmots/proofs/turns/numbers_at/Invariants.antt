use Rattle.std.proofs.Common.{◌≡◌, ℕ, ◌<◌, length, slice_index}
use Rattle.lmots.proofs.turns.numbers_at.Given as goal

abbrev pub invariant-lanes : goal.invariant-lanes
invariant-lanes l = (length l.found ≡ 8) × ((k : ℕ) → k < l.lane → slice_index l.found k ≡ slice_index l.numbers (slice_index l.lanes k))
