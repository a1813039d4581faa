-- Who signed an envelope (DSSE).
use Rattle.std.specs.Prelude.{◌≡◌, ◌↔◌, ◌⊎◌, ◌||◌, ◌&&◌, ◌==◌, ℕ, Bool, List, [], length, map}
use Rattle.std.specs.List.{Contains, filter, list_any}
use Rattle.std.specs.Str.{bytes_eq}
use Rattle.hex.specs.Hex.{encode_lower}
use Rattle.dsse_envelope.specs.Authentication.{pae}
use Rattle.dsse_envelope.specs.declared.envelope.Envelope.{Envelope}
use Rattle.dsse_envelope.specs.declared.envelope.Signature.{Signature}
use Rattle.lms_keys.specs.Deciding.{is_good}
use Rattle.lms_keys.specs.SigOk.{SigOk}
use Rattle.root_metadata.specs.Shapes.{set_of}
use Rattle.root_metadata.specs.declared.keys.Key.{Key}

-- the bytes that an envelope's signatures are over
abbrev pub signed_text : Envelope → List ℕ
signed_text envelope = pae envelope.payload_type envelope.payload

-- the signature names the key of this id by its hexadecimal digits, or names no key
abbrev pub speaks_for : Signature → List ℕ → Bool
speaks_for signature id = length signature.keyid == 0 || bytes_eq signature.keyid (encode_lower id)

-- the signature is one of this key
abbrev pub is_by : List ℕ → Key → Signature → Bool
is_by text key signature = speaks_for signature key.id && is_good key.public text signature.sig

-- some signature is one of this key
abbrev pub signed_by : List ℕ → List Signature → Key → Bool
signed_by text signatures key = list_any (is_by text key) signatures

-- the ids of the keys that signed, as a set
abbrev pub env_signers : Envelope → List Key → List (List ℕ)
env_signers envelope keys = set_of
    (map (λ key. key.id) (filter (signed_by (signed_text envelope) envelope.signatures) keys))

-- the same in the words of the standard: the key of this id is one of these, and some signature, which names it or
-- names
-- no key, is good over the envelope's encoding
pub record IsSigner (envelope : Envelope) (keys : List Key) (id : List ℕ) : Type 0 where
  pub key : Key
  pub listed : Contains keys key
  pub own : key.id ≡ id
  pub signature : Signature
  pub there : Contains envelope.signatures signature
  pub speaks : (signature.keyid ≡ []) ⊎ (signature.keyid ≡ encode_lower id)
  pub good : SigOk key.public (pae envelope.payload_type envelope.payload) signature.sig

-- a set has exactly the ids of those keys
abbrev pub AreSigners : Envelope → List Key → List (List ℕ) → Type 0
AreSigners envelope keys ids = (id : List ℕ) → Contains ids id ↔ IsSigner envelope keys id
