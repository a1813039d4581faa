use Rattle.std.proofs.Common.{◌≡◌, ℕ, ◌-◌, slice_index, arith}
use Rattle.lmots.specs.OtsType.{chain_count}
use Rattle.lmots.specs.Chain.{steps}
use Rattle.lmots.proofs.one_time.chains_shown.Goals as goal

pub chains-preserved : goal.chains-preserved
chains-preserved c = record {
  table = c.begin.ensures.table;
  on = λ i q.
      let chain : ℕ = c.chains.chain in
      let digit : ℕ = slice_index c.args.digits.now chain in
      c.begin.ensures.goes i q _
      ((λ k. steps i q chain digit (c.top.ensures k - digit) (c.block_at.ensures k)))
      (c.chains.invariant.on i q);
}

pub returns-clause-on : goal.returns-clause-on
returns-clause-on c = λ i q.
    let count : c.chains.chain ≡ chain_count c.args.kind = omega arith in
    record { goes = λ k lt. (c.chains.invariant.on i q).goes k (omega (arith, count)) }
