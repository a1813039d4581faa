use Rattle.std.proofs.Common.{ℕ, ◌-◌, ◌^◌, List, slice_index}
use Rattle.lmots.specs.OtsType.{width}
use Rattle.lmots.specs.Chain.{steps}
use Rattle.lmots.specs.OneTime.{element_in}
use Rattle.lmots.specs.OnWay.{AreOnWay, IsTable}
use Rattle.lmots.proofs.one_time.chains_shown.Given as goal

abbrev pub invariant-chains : goal.invariant-chains
invariant-chains l = record {
  table : IsTable l.chains.at l.chains.to l.chains.values;
  on : (i : List ℕ) (q : ℕ) → AreOnWay i q l.chain (λ chain. steps i q chain (slice_index l.digits chain)
      (2 ^ width l.kind - 1 - slice_index l.digits chain) (element_in l.signature chain)) l.chains.at l.chains.to l.chains.values;
}
