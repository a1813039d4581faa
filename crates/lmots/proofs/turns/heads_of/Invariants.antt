use Rattle.std.proofs.Common.{◌≡◌, ℕ, ◌<◌, [], length, slice_index, slice_index_or}
use Rattle.lmots.specs.Chain.{head}
use Rattle.lmots.proofs.turns.heads_of.Given as goal

abbrev pub invariant-lanes : goal.invariant-lanes
invariant-lanes l = (length l.heads ≡ 8) × ((k : ℕ) → k < l.lane → slice_index_or l.heads k [] ≡ head l.i l.q (slice_index l.lanes k))
