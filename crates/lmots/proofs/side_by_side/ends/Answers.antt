use Rattle.std.proofs.Common.{◌≡◌, ℕ, ◌-◌, ◌^◌, List, [], slice_index_or, replicate, ◌∙◌, ap, arith}
use Rattle.std.proofs.lemmas.Simd.{get_or-replicate}
use Rattle.sha2.specs.Sha256.{sha256}
use Rattle.sha256_lanes.specs.Chain.{message, walked}
use Rattle.lmots.specs.OtsType.{width}
use Rattle.lmots.proofs.side_by_side.ends.Goals as goal

pub returns : goal.returns
returns c = λ k lt.
    let h : List ℕ = slice_index_or c.args.heads.now k [] in
    let count : c.top.result - 0 ≡ 2 ^ width c.args.kind - 1 = omega (arith, c.top.ensures) in
    let seed : slice_index_or (replicate 8 c.args.seed.now) k [] ≡ c.args.seed.now = get_or-replicate 8 k c.args.seed.now [] lt in
    c.walk.ensures k lt ∙ ap (λ (n : ℕ). walked h 0 n (slice_index_or c.step-starts.result k [])) count
    ∙ ap (λ (x : List ℕ). walked h 0 (2 ^ width c.args.kind - 1) x)
    (c.step-starts.ensures k lt ∙ ap (λ (x : List ℕ). sha256 (message h 0xff x)) seed)
