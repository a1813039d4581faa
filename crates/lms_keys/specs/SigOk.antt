-- Which signatures are good, as a relation on bytes: those of a public key, of a message and of a
-- signature.
use Rattle.std.specs.Prelude.{◌≡◌, ◌⊎◌, ◌↔◌, ℕ, suc, ◌-◌, ◌<◌, ◌≤◌, List, ◌++◌, length}
use Rattle.std.specs.Int.{w32, to_be_bytes}
use Rattle.lmots.specs.Chain.{joined}
use Rattle.lms_keys.specs.declared.public_key.PublicKey.{PublicKey}
use Rattle.lms_keys.specs.PublicKey.{key_bytes}
use Rattle.lms_keys.specs.Signature.{IsSignature}

-- good by an LMS key: the key's bytes are 56, those of a key of known types, and the signature is
-- good for that key (RFC 8554, section 5.4.2)
pub record LmsSigOk (public message s : List ℕ) : Type 0 where
  pub long : length public ≡ 56
  pub key : PublicKey
  pub identifier : length key.i ≡ 16
  pub written : public ≡ key_bytes key
  pub good : IsSignature key message s

-- n signed public keys and a signature, from a first public key on: each signature is good by the
-- key before it, of the public key beside it, and the last is of the message (RFC 8554, section 6.3)
pub record AreSignedKeys (n : ℕ) (public message s : List ℕ) : Type 0 where
  pub keys : ℕ → List ℕ
  pub signatures : ℕ → List ℕ
  pub first : keys 0 ≡ public
  pub spelled : s ≡ joined (λ i. signatures i ++ keys (suc i)) n ++ signatures n
  pub signed : (i : ℕ) → i < n → LmsSigOk (keys i) (keys (suc i)) (signatures i)
  pub last : LmsSigOk (keys n) message (signatures n)

-- good by an HSS key of one to eight levels: the key is u32str(L) || pub[0], and the signature is
-- u32str(L - 1), then L - 1 signed public keys and a signature (RFC 8554, sections 6.1 to 6.3)
pub record HssSigOk (public message s : List ℕ) : Type 0 where
  pub levels : ℕ
  pub some : 1 ≤ levels
  pub few : levels ≤ 8
  pub first : List ℕ
  pub rest : List ℕ
  pub key : public ≡ to_be_bytes w32 levels ++ first
  pub spelled : s ≡ to_be_bytes w32 (levels - 1) ++ rest
  pub signed : AreSignedKeys (levels - 1) first message rest

-- a good signature, by a key of 56 bytes or of 60
abbrev pub SigOk : List ℕ → List ℕ → List ℕ → Type 0
SigOk public message s = LmsSigOk public message s ⊎ HssSigOk public message s

-- by the bytes of an LMS key those signatures are good that are good for this key, and no others
abbrev pub ByOneKey : Type 0
ByOneKey =
    (key : PublicKey) (message s : List ℕ) → length key.i ≡ 16 → length key.root ≡ 32
    → SigOk (key_bytes key) message s ↔ IsSignature key message s
