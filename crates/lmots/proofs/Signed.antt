-- What is signed with a key leads back to the key.
use Rattle.std.proofs.Common.{◌≡◌, ℕ, ◌+◌, ◌-◌, ◌*◌, ◌^◌, ◌<◌, ◌≤◌, List, ◌++◌, length, take, drop, sym, ◌∙◌, ap, arith, lit<, length-append}
use Rattle.std.specs.Int.{w16, w32, to_be_bytes}
use Rattle.std.proofs.lemmas.Nat.{from_be_bytes-to_be_bytes_4}
use Rattle.std.proofs.lemmas.List.{drop-drop, drop_at, take_at}
use Rattle.sha2.specs.Sha256.{sha256}
use Rattle.sha2.proofs.Facts256.{length-sha256}
use Rattle.lmots.specs.declared.ots_type.OtsType.{OtsType}
use Rattle.lmots.specs.declared.ots_type.OtsType.TheVariants.{W1, W2, W4, W8}
use Rattle.lmots.specs.OtsType.{code, width, chain_count}
use Rattle.lmots.specs.Chain.{steps, private_element, randomizer, joined}
use Rattle.lmots.specs.OneTime.{IsOfType, randomizer_in, element_in, digit_of, message_digest, key_of, ended, shown, finished, signature, candidate, public_key}
use Rattle.lmots.proofs.Steps.{length-steps, steps-steps}
use Rattle.lmots.proofs.Blocks.{AreBlocks, length-joined, block-joined, joined-same}
use Rattle.lmots.proofs.LesserDigit.{coef-le}

code_small : (kind : OtsType) → code kind < 2 ^ 32
code_small W1 = lit< tt
code_small W2 = lit< tt
code_small W4 = lit< tt
code_small W8 = lit< tt

shown_blocks : (kind : OtsType) (i : List ℕ) (q : ℕ) (seed digest : List ℕ) → AreBlocks (shown kind i q seed digest) (chain_count kind)
shown_blocks kind i q seed digest chain inside =
    length-steps i q chain 0 (digit_of kind digest chain) (private_element i q chain seed) (length-sha256 _)

pub IsOfType-signature : (kind : OtsType) (i : List ℕ) (q : ℕ) (seed message : List ℕ) → IsOfType kind (signature kind i q seed message)
IsOfType-signature kind i q seed message =
    let c : List ℕ = randomizer i q seed in
    let z : ℕ → List ℕ = shown kind i q seed (message_digest i q c message) in
    let rest : length (joined z (chain_count kind)) ≡ 32 * chain_count kind =
    length-joined z (chain_count kind) (shown_blocks kind i q seed (message_digest i q c message)) in
    let long : length c ≡ 32 = length-sha256 _ in
    record {
      coded = from_be_bytes-to_be_bytes_4 (code kind) (code_small kind);
      long =
          length-append (to_be_bytes w32 (code kind) ++ c) (joined z (chain_count kind))
          ∙ omega (arith, length-append (to_be_bytes w32 (code kind)) c, long, rest);
    }

randomizer_in-signature : (kind : OtsType) (i : List ℕ) (q : ℕ) (seed message : List ℕ) → randomizer_in (signature kind i q seed message) ≡ randomizer i q seed
randomizer_in-signature kind i q seed message = take_at (randomizer i q seed) _ 32 (length-sha256 _)

element_in-signature : (kind : OtsType) (i : List ℕ) (q : ℕ) (seed message : List ℕ) (chain : ℕ) → chain < chain_count kind
    → element_in (signature kind i q seed message) chain ≡ shown kind i q seed (message_digest i q (randomizer i q seed) message) chain
element_in-signature kind i q seed message chain inside =
    let c : List ℕ = randomizer i q seed in
    let z : ℕ → List ℕ = shown kind i q seed (message_digest i q c message) in
    let all : List ℕ = joined z (chain_count kind) in
    let place : 36 + 32 * chain ≡ 4 + (32 + 32 * chain) = omega arith in
    ap (λ n. take 32 (drop n (signature kind i q seed message))) place
    ∙ ap (take 32) (sym (drop-drop (32 + 32 * chain) 4 (signature kind i q seed message)))
    ∙ ap (take 32) (sym (drop-drop (32 * chain) 32 (c ++ all)))
    ∙ ap (λ l. take 32 (drop (32 * chain) l)) (drop_at c all 32 (length-sha256 _))
    ∙ block-joined z (chain_count kind) (shown_blocks kind i q seed (message_digest i q c message)) chain inside

-- a chain that is walked from where it is shown ends where the whole chain ends
finished-signature : (kind : OtsType) (i : List ℕ) (q : ℕ) (seed message : List ℕ) (chain : ℕ) → chain < chain_count kind
    → finished kind i q (signature kind i q seed message) (message_digest i q (randomizer i q seed) message) chain ≡ ended kind i q seed chain
finished-signature kind i q seed message chain inside =
    let digest : List ℕ = message_digest i q (randomizer i q seed) message in
    let d : ℕ = digit_of kind digest chain in
    let start : List ℕ = private_element i q chain seed in
    let low : d ≤ 2 ^ width kind - 1 = coef-le kind _ chain in
    let from : d ≡ 0 + d = omega arith in
    let count : d + (2 ^ width kind - 1 - d) ≡ 2 ^ width kind - 1 = omega (arith, low) in
    ap (λ y. steps i q chain d (2 ^ width kind - 1 - d) y) (element_in-signature kind i q seed message chain inside)
    ∙ ap (λ a. steps i q chain a (2 ^ width kind - 1 - d) (steps i q chain 0 d start)) from
    ∙ steps-steps i q chain 0 d (2 ^ width kind - 1 - d) start
    ∙ ap (λ n. steps i q chain 0 n start) count

-- the candidate, where the digest is known
abbrev candidate_with : OtsType → List ℕ → ℕ → List ℕ → List ℕ → List ℕ
candidate_with kind i q s digest = key_of kind i q (finished kind i q s digest)

pub candidate-signature : (kind : OtsType) (i : List ℕ) (q : ℕ) (seed message : List ℕ)
    → candidate kind i q message (signature kind i q seed message) ≡ public_key kind i q seed
candidate-signature kind i q seed message =
    let s : List ℕ = signature kind i q seed message in
    ap (λ c. candidate_with kind i q s (message_digest i q c message)) (randomizer_in-signature kind i q seed message)
    ∙ ap (λ l. sha256 (i ++ to_be_bytes w32 q ++ to_be_bytes w16 0x8080 ++ l))
    (joined-same (finished kind i q s (message_digest i q (randomizer i q seed) message)) (ended kind i q seed) (chain_count kind)
    (finished-signature kind i q seed message))
