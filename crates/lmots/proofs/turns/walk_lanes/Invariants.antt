use Rattle.std.proofs.Common.{◌≡◌, ℕ, ◌<◌, List, slice_index}
use Rattle.lmots.specs.OnWay.{AreOnWay, IsTable}
use Rattle.lmots.proofs.turns.walk_lanes.Given as goal

abbrev pub invariant-lanes : goal.invariant-lanes
invariant-lanes l = record {
  table : IsTable l.chains.at l.chains.to l.chains.values;
  ends : l.chains.to ≡ l.fn.chains.to;
  goes : (n : ℕ) (z : ℕ → List ℕ) → ((k : ℕ) → k < 8 → slice_index l.lanes k < n)
      → AreOnWay l.fn.i l.fn.q n z l.fn.chains.at l.fn.chains.to l.fn.chains.values
      → AreOnWay l.fn.i l.fn.q n z l.chains.at l.chains.to l.chains.values;
}
