use Rattle.std.proofs.Common.{◌≡◌, ℕ, ◌<◌, ◌≤◌, length, slice_index}
use Rattle.lmots.proofs.turns.places_after.Given as goal

abbrev pub invariant-lanes : goal.invariant-lanes
invariant-lanes l = record {
  whole : length l.places ≡ 8;
  reached : (k : ℕ) → k < l.lane → slice_index l.chains.at (slice_index l.lanes k) ≤ slice_index l.places k;
  within : (k : ℕ) → k < l.lane → slice_index l.places k ≤ slice_index l.chains.to (slice_index l.lanes k);
}
