use Rattle.std.proofs.Common.{◌≡◌, ℕ, List, ◌-◌, ◌^◌, slice_index, ap, ◌∙◌}
use Rattle.lmots.specs.OtsType.{chain_count, width}
use Rattle.lmots.specs.Chain.{steps}
use Rattle.lmots.specs.OneTime.{digit_of, element_in, finished, message_digest, randomizer_in}
use Rattle.lmots.proofs.OnTheWay.{on_said}
use Rattle.lmots.proofs.one_time.candidate_of.Goals as goal

pub returns : goal.returns
returns c =
    let kind = c.args.kind in
    let i = c.args.i.now in
    let q = c.args.q in
    let s = c.args.signature.now in
    let digest : List ℕ = message_digest i q (randomizer_in s) c.args.message.now in
    let hashed : c.message_digest-digest.result ≡ digest =
    c.message_digest-digest.ensures ∙ ap (λ r. message_digest i q r c.args.message.now) c.block_at.ensures in
    let z = finished kind i q s digest in
    let begun = on_said i q (chain_count kind) _ z _ _ _
    (λ chain lt.
    let digit : slice_index c.digits_of.result chain ≡ digit_of kind digest chain = c.digits_of.ensures.digits chain lt ∙ ap (λ d. digit_of kind d chain) hashed in
    λ k. steps i q chain (digit k) (2 ^ width kind - 1 - digit k) (element_in s chain))
    (c.chains_shown-chains.ensures.on i q) in
    c.key_of_ends.ensures z (c.walk_all.ensures.goes z begun)
