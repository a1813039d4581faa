use Rattle.std.proofs.Common.{◌≡◌, ℕ, ◌<◌, [], length, map, slice_index_or}
use Rattle.object_lanes.specs.Groups.{unnamed_id}
use Rattle.object_lanes.proofs.groups.one_by_one.Given as goal

abbrev pub invariant-lanes : goal.invariant-lanes
invariant-lanes l = (length l.ids ≡ 8)
    × ((i : ℕ) → i < l.lane → i < length l.group → slice_index_or l.ids i [] ≡ slice_index_or (map unnamed_id l.group) i [])
