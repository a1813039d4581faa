use Rattle.std.proofs.Common.{◌≡◌, ℕ, ◌+◌, ◌*◌, ◌/◌, ◌%◌, ◌-◌, [], slice_index, slice_index_or, ap, ◌∙◌, arith}
use Rattle.lmots.specs.Chain.{private_element, steps}
use Rattle.lmots.proofs.Numbers.{few_chains}
use Rattle.lmots.proofs.one_time.chains_from_seed.Goals as goal

pub bounds-to-place : goal.bounds-to-place
bounds-to-place c = omega (arith, few_chains c.args.kind)

pub begin-requires-clause-room : goal.begin-requires-clause-room
begin-requires-clause-room c = omega (arith, few_chains c.args.kind)

pub chains-preserved : goal.chains-preserved
chains-preserved c =
    let i = c.args.i.now in
    let q = c.args.q in
    let chain : ℕ = c.chains.chain in
    let z = λ (n : ℕ). private_element i q n c.args.seed.now in
    let made = c.starts_with-made.ensures c.chains.invariant.starts in
    let place : chain / 8 * 8 + chain % 8 ≡ chain = omega arith in
    let start : slice_index_or c.starts_with-made.result (chain % 8) [] ≡ z chain = made.at (chain % 8) (omega arith) ∙ ap z place in
    let to : ℕ = slice_index c.args.to.now chain in
    let count : to - 0 ≡ to = omega arith in
    record {
      starts = λ more.
          let same : chain / 8 * 8 ≡ (chain + 1) / 8 * 8 = omega (arith, more) in
          record { at = λ k lt. made.at k lt ∙ ap (λ (n : ℕ). z (n + k)) same };
      table = c.begin.ensures.table;
      on = c.begin.ensures.goes i q _ (λ k. steps i q chain 0 (count k) (start k)) c.chains.invariant.on;
    }
