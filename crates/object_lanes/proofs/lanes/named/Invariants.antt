use Rattle.std.proofs.Common.{◌≡◌, ℕ, ◌<◌, [], length, slice_index_or}
use Rattle.object_lanes.proofs.lanes.named.Given as goal

abbrev pub invariant-lanes : goal.invariant-lanes
invariant-lanes l = (length l.ids ≡ 8) × ((i : ℕ) → i < l.lane → slice_index_or l.ids i [] ≡ slice_index_or l.digests i [])
