use Rattle.std.proofs.Common.{◌≡◌, ℕ, ◌+◌, ◌<◌, [], length, slice_index_or}
use Rattle.lmots.specs.Chain.{head}
use Rattle.lmots.proofs.side_by_side.heads_of_chains.Given as goal

abbrev pub invariant-lanes : goal.invariant-lanes
invariant-lanes l = (length l.heads ≡ 8) × ((k : ℕ) → k < l.lane → slice_index_or l.heads k [] ≡ head l.i l.q (l.first + k))
