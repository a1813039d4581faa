use Rattle.std.proofs.Common.{ℕ, ◌-◌, [], slice_index, slice_index_or, ◌∙◌, ap, arith}
use Rattle.lmots.specs.Chain.{steps}
use Rattle.lmots.proofs.turns.walk_lanes.Goals as goal

pub lanes-preserved : goal.lanes-preserved
lanes-preserved c = record {
  table = c.advance.ensures.table;
  ends = c.advance.ensures.ends ∙ c.lanes.invariant.ends;
  goes = λ n z below on.
      let lane : ℕ = c.lanes.lane in
      let chain : ℕ = slice_index c.args.lanes.now lane in
      c.advance.ensures.goes c.args.i.now c.args.q n z
      (ap (λ to. steps c.args.i.now c.args.q chain (slice_index c.places_after-places.result lane) (slice_index to chain - slice_index c.places_after-places.result lane)
      (slice_index_or c.values_after-values.result lane [])) c.lanes.invariant.ends
      ∙ c.values_after-values.ensures n z below on lane (omega arith))
      (c.lanes.invariant.goes n z below on);
}
