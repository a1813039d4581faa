use Rattle.std.proofs.Common.{ℕ, ◌<◌, List, slice_index}
use Rattle.lmots.specs.OtsType.{chain_count}
use Rattle.lmots.specs.OnWay.{AreOnWay, IsTable}
use Rattle.lmots.proofs.turns.walk_all.Given as goal

abbrev pub invariant-turns : goal.invariant-turns
invariant-turns l = record {
  inside : (k : ℕ) → k < 8 → slice_index l.lanes k < l.count;
  table : IsTable l.chains.at l.chains.to l.chains.values;
  goes : (z : ℕ → List ℕ) → AreOnWay l.i l.q (chain_count l.fn.kind) z l.fn.chains.at l.fn.chains.to l.fn.chains.values
      → AreOnWay l.i l.q (chain_count l.fn.kind) z l.chains.at l.chains.to l.chains.values;
}
