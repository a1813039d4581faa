use Rattle.std.proofs.Common.{◌*◌, ◌/◌, ◌%◌, ◌<◌, slice_index}
use Rattle.lmots.specs.Chain.{private_element, steps}
use Rattle.lmots.specs.OnWay.{AreOnWay, IsTable}
use Rattle.lmots.specs.SideBySide.{ArePieces}
use Rattle.lmots.proofs.one_time.chains_from_seed.Given as goal

abbrev pub invariant-chains : goal.invariant-chains
invariant-chains l = record {
  starts : 0 < l.chain % 8 → ArePieces (λ c. private_element l.i l.q c l.seed) (l.chain / 8 * 8) l.starts;
  table : IsTable l.chains.at l.chains.to l.chains.values;
  on : AreOnWay l.i l.q l.chain (λ chain. steps l.i l.q chain 0 (slice_index l.to chain) (private_element l.i l.q chain l.seed))
      l.chains.at l.chains.to l.chains.values;
}
