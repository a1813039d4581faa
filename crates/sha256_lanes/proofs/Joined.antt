-- The hash of a text, block by block.
use Rattle.std.proofs.Common.{◌≡◌, ℕ, ◌+◌, ◌-◌, ◌*◌, ◌%◌, ◌^◌, ◌<◌, List, length, replicate, refl, sym, ◌∙◌, ap, arith, length-append}
use Rattle.std.proofs.lemmas.Simd.{length-replicate}
use Rattle.std.specs.Int.{w64, to_be_bytes}
use Rattle.sha2.specs.Sha256.{compress, digest_bytes, hash_after, initial_hash_256, padded_message, padding, sha256}
use Rattle.sha2.proofs.Absorbing256.{hash_after_next}
use Rattle.sha256_lanes.specs.Texts.{block_of, blocks_of}

length-padding : (n : ℕ) → length (padding n) ≡ (119 - n % 64) % 64 + 9
length-padding n =
    let zeros : List ℕ = replicate ((119 - n % 64) % 64) 0 in
    let bits : List ℕ = to_be_bytes w64 (n * 8 % 2 ^ 64) in
    let eight : length bits ≡ 8 = refl in
    omega (arith, length-append zeros bits, length-replicate {A = ℕ} ((119 - n % 64) % 64) 0, eight)

pub some_block : (m : List ℕ) → 0 < blocks_of m
some_block m = omega (arith, length-append m (padding (length m)), length-padding (length m))

pub started : (p : List ℕ) → initial_hash_256 ≡ hash_after initial_hash_256 p 0
unfolding hash_after
started p = refl

pub next_block : (m s b next : List ℕ) (k : ℕ) → s ≡ hash_after initial_hash_256 (padded_message m) k → b ≡ block_of m k → next ≡ compress s b
    → next ≡ hash_after initial_hash_256 (padded_message m) (k + 1)
next_block m s b next k es eb e = e ∙ (λ j. compress (es j) (eb j)) ∙ sym (hash_after_next initial_hash_256 (padded_message m) k)

pub finished : (m h out : List ℕ) (k : ℕ) → blocks_of m ≡ k → h ≡ hash_after initial_hash_256 (padded_message m) k → out ≡ digest_bytes h 8 → out ≡ sha256 m
unfolding sha256
finished m h out k count eh eo =
    eo ∙ ap (λ (x : List ℕ). digest_bytes x 8) eh ∙ ap (λ (j : ℕ). digest_bytes (hash_after initial_hash_256 (padded_message m) j) 8) (sym count)
