use Rattle.std.proofs.Common.{◌∙◌, arith}
use Rattle.std.proofs.lemmas.Simd.{get_or-replicate}
use Rattle.lmots.specs.OtsType.{chain_count}
use Rattle.lmots.specs.Chain.{private_element, steps}
use Rattle.lmots.specs.OneTime.{ended}
use Rattle.lmots.proofs.Numbers.{few_chains}
use Rattle.lmots.proofs.OnTheWay.{on_said}
use Rattle.lmots.proofs.one_time.public_of.Goals as goal

pub returns : goal.returns
returns c =
    let kind = c.args.kind in
    let i = c.args.i.now in
    let q = c.args.q in
    let seed = c.args.seed.now in
    let begun = on_said i q (chain_count kind) _ (ended kind i q seed) _ _ _
    (λ chain lt k. steps i q chain 0 ((get_or-replicate 265 chain c.top.result 0 (omega (arith, few_chains kind)) ∙ c.top.ensures) k) (private_element i q chain seed))
    c.chains_from_seed-chains.ensures.on in
    c.key_of_ends.ensures (ended kind i q seed) (c.walk_all.ensures.goes (ended kind i q seed) begun)
