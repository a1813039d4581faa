-- Keys and signatures of LM-OTS.
use Rattle.std.specs.Prelude.{◌≡◌, ◌≢◌, ◌⊎◌, ℕ, ◌+◌, ◌-◌, ◌*◌, ◌^◌, ◌<◌, ◌≤◌, List, ◌++◌, length, take, drop}
use Rattle.std.specs.Int.{w16, w32, to_be_bytes, from_be_bytes}
use Rattle.sha2.specs.Sha256.{sha256}
use Rattle.lmots.specs.declared.ots_type.OtsType.{OtsType}
use Rattle.lmots.specs.OtsType.{code, width, chain_count, signature_len}
use Rattle.lmots.specs.Digits.{coef, with_checksum}
use Rattle.lmots.specs.Chain.{steps, private_element, randomizer, joined}

-- I || u32str(q) || u16str(D_PBLC) || z[0] || … || z[p-1]
abbrev pub key_text : OtsType → List ℕ → ℕ → (ℕ → List ℕ) → List ℕ
key_text kind i q z =
    i ++ to_be_bytes w32 q ++ to_be_bytes w16 0x8080 ++ joined z (chain_count kind)

-- the hash of these (RFC 8554, section 4.3)
abbrev pub key_of : OtsType → List ℕ → ℕ → (ℕ → List ℕ) → List ℕ
key_of kind i q z = sha256 (key_text kind i q z)

-- y[chain] of a public key: a chain walked from its start to its end (RFC 8554, section 4.3)
abbrev pub ended : OtsType → List ℕ → ℕ → List ℕ → ℕ → List ℕ
ended kind i q seed chain = steps i q chain 0 (2 ^ width kind - 1) (private_element i q chain seed)

-- the public key K of leaf q, whose private key is drawn from the seed (RFC 8554, section 4.3)
abbrev pub public_key : OtsType → List ℕ → ℕ → List ℕ → List ℕ
public_key kind i q seed = key_of kind i q (ended kind i q seed)

-- I || u32str(q) || u16str(D_MESG) || C || message
abbrev pub message_text : List ℕ → ℕ → List ℕ → List ℕ → List ℕ
message_text i q c message = i ++ to_be_bytes w32 q ++ to_be_bytes w16 0x8181 ++ c ++ message

-- Q, the hash of these (RFC 8554, section 4.5)
abbrev pub message_digest : List ℕ → ℕ → List ℕ → List ℕ → List ℕ
message_digest i q c message = sha256 (message_text i q c message)

-- a = coef(Q || Cksm(Q), chain, w), how far a signature shows a chain (RFC 8554, section 4.5)
abbrev pub digit_of : OtsType → List ℕ → ℕ → ℕ
digit_of kind digest chain = coef (with_checksum kind digest) chain (width kind)

-- y[chain] of a signature that is made from the seed (RFC 8554, section 4.5)
abbrev pub shown : OtsType → List ℕ → ℕ → List ℕ → List ℕ → ℕ → List ℕ
shown kind i q seed digest chain =
    steps i q chain 0 (digit_of kind digest chain) (private_element i q chain seed)

-- u32str(type) || C || y[0] || … || y[p-1] (RFC 8554, section 4.5)
abbrev pub signature : OtsType → List ℕ → ℕ → List ℕ → List ℕ → List ℕ
signature kind i q seed message = to_be_bytes w32 (code kind) ++ randomizer i q seed
    ++ joined (shown kind i q seed (message_digest i q (randomizer i q seed) message))
    (chain_count kind)

-- strTou32 of the first four bytes (RFC 8554, section 4.6)
abbrev pub code_in : List ℕ → ℕ
code_in s = from_be_bytes w32 (take 4 s)

-- the bytes begin with the type's code, and go on with the randomizer and a block of 32 bytes for
-- each of the type's chains, and nothing more (RFC 8554, section 4.6)
pub record IsOfType (kind : OtsType) (s : List ℕ) : Type 0 where
  pub coded : code_in s ≡ code kind
  pub long : length s ≡ signature_len kind

-- fewer than four bytes, or the type's code and then not as many bytes as the type has
abbrev pub HasBadLength : OtsType → List ℕ → Type 0
HasBadLength kind s = (length s < 4) ⊎ ((code_in s ≡ code kind) × (length s ≢ signature_len kind))

-- four bytes that are not the type's code
abbrev pub HasBadType : OtsType → List ℕ → Type 0
HasBadType kind s = (4 ≤ length s) × (code_in s ≢ code kind)

-- C of a signature
abbrev pub randomizer_in : List ℕ → List ℕ
randomizer_in s = take 32 (drop 4 s)

-- y[chain] of a signature
abbrev pub element_in : List ℕ → ℕ → List ℕ
element_in s chain = take 32 (drop (36 + 32 * chain) s)

-- z[chain]: what a signature shows of a chain, walked to its end (RFC 8554, section 4.6)
abbrev pub finished : OtsType → List ℕ → ℕ → List ℕ → List ℕ → ℕ → List ℕ
finished kind i q s digest chain =
    steps i q chain (digit_of kind digest chain) (2 ^ width kind - 1 - digit_of kind digest chain)
    (element_in s chain)

-- the candidate Kc for the key of leaf q, from a signature (RFC 8554, section 4.6)
abbrev pub candidate : OtsType → List ℕ → ℕ → List ℕ → List ℕ → List ℕ
candidate kind i q message s =
    key_of kind i q (finished kind i q s (message_digest i q (randomizer_in s) message))
