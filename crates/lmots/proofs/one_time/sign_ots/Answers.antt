use Rattle.std.proofs.Common.{◌≡◌, ℕ, ◌+◌, ◌*◌, ◌++◌, ◌∙◌, ap, sym, List, take, arith}
use Rattle.std.proofs.lemmas.List.{take_all}
use Rattle.std.specs.Int.{w32, to_be_bytes}
use Rattle.lmots.specs.OtsType.{code, chain_count}
use Rattle.lmots.specs.Chain.{private_element, randomizer, joined, steps}
use Rattle.lmots.specs.OneTime.{digit_of, shown, message_digest}
use Rattle.lmots.proofs.OnTheWay.{on_said}
use Rattle.lmots.proofs.Rows.{written_none, written_more}
use Rattle.lmots.proofs.one_time.sign_ots.Goals as goal

pub chains-init : goal.chains-init
chains-init c =
    written_none (shown c.args.kind c.args.i.now c.args.q c.args.seed.now (message_digest c.args.i.now c.args.q (randomizer c.args.i.now c.args.q c.args.seed.now) c.args.message.now))
    c.put.new.out c.put-2.new.out c.to_be_bytes.result c.private_element-randomizer.result (to_be_bytes w32 (code c.args.kind)) (randomizer c.args.i.now c.args.q c.args.seed.now)
    (c.to_be_bytes.ensures ∙ ap (to_be_bytes w32) c.code.ensures) c.private_element-randomizer.ensures
    (omega arith) (omega arith) c.put.ensures.front c.put-2.ensures.front

pub chains-preserved : goal.chains-preserved
chains-preserved c =
    let kind = c.args.kind in
    let i = c.args.i.now in
    let q = c.args.q in
    let seed = c.args.seed.now in
    let message = c.args.message.now in
    let r : List ℕ = randomizer i q seed in
    let digest : List ℕ = message_digest i q r message in
    let hashed : c.message_digest-digest.result ≡ digest =
    c.message_digest-digest.ensures ∙ ap (λ l. message_digest i q l message) c.private_element-randomizer.ensures in
    let z = shown kind i q seed digest in
    let begun = on_said i q (chain_count kind) _ z _ _ _
    (λ chain lt.
    let digit = c.digits_of.ensures.digits chain lt ∙ ap (λ d. digit_of kind d chain) hashed in
    λ k. steps i q chain 0 (digit k) (private_element i q chain seed))
    c.chains_from_seed-chains.ensures.on in
    let end = c.end_of-value.ensures (chain_count kind) z (omega arith) (c.walk_all.ensures.goes z begun) in
    written_more 36 (to_be_bytes w32 (code kind) ++ r) z c.chains.chain c.chains.out c.put-in-chains.new.out c.end_of-value.result (omega arith) end
    c.chains.invariant c.put-in-chains.ensures.front

pub returns : goal.returns
returns c =
    let count : c.chains.chain ≡ chain_count c.args.kind = omega arith in
    let whole : take (36 + 32 * c.chains.chain) c.chains.out ≡ c.chains.out = take_all _ _ (omega arith) in
    sym whole ∙ c.chains.invariant
    ∙ ap (λ (n : ℕ). to_be_bytes w32 (code c.args.kind) ++ randomizer c.args.i.now c.args.q c.args.seed.now
    ++ joined (shown c.args.kind c.args.i.now c.args.q c.args.seed.now (message_digest c.args.i.now c.args.q (randomizer c.args.i.now c.args.q c.args.seed.now) c.args.message.now)) n) count
