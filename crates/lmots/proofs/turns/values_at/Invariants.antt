use Rattle.std.proofs.Common.{◌≡◌, ℕ, ◌<◌, [], length, slice_index, slice_index_or}
use Rattle.lmots.proofs.turns.values_at.Given as goal

abbrev pub invariant-lanes : goal.invariant-lanes
invariant-lanes l = (length l.found ≡ 8) × ((k : ℕ) → k < l.lane → slice_index_or l.found k [] ≡ slice_index_or l.values (slice_index l.lanes k) [])
