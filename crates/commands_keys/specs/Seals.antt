-- A key's signature in an envelope.
use Rattle.std.specs.Prelude.{◌≡◌, ◌≤◌, ◌<◌, ℕ, All, IsUtf8, List, length}
use Rattle.hex.specs.Hex.{IsBytes, encode_lower}
use Rattle.sha2.specs.Sha256.{sha256}
use Rattle.lms_keys.specs.HssSecret.{Secret, public_bytes}
use Rattle.dsse_envelope.specs.Authentication.{pae}
use Rattle.dsse_envelope.specs.Sealing.{sealed}
use Rattle.dsse_envelope.specs.Written.{HasTextId, text_of}
use Rattle.dsse_envelope.specs.declared.envelope.Envelope.{Envelope}
use Rattle.dsse_envelope.specs.declared.envelope.Signature.{Signature}

-- the id of a key in lower-case hexadecimal
abbrev pub id_text : Secret → List ℕ
id_text secret = encode_lower (sha256 (public_bytes secret))

abbrev pub signature_of : List ℕ → List ℕ → Signature
signature_of keyid bytes = record { keyid = keyid; sig = bytes }

abbrev pub signature_by : Secret → List ℕ → Signature
signature_by secret bytes = signature_of (id_text secret) bytes

-- what is signed of an envelope
abbrev pub signed_text : Envelope → List ℕ
signed_text e = pae e.payload_type e.payload

-- an envelope that can be written once it has a signature more
pub record IsSealable (e : Envelope) : Type 0 where
  pub few : length e.signatures ≤ 64
  pub type_text : IsUtf8 e.payload_type
  pub ids : All HasTextId e.signatures

-- with a signature of this key, of so many bytes, the text of the envelope has at most 1 MiB, whatever the signature is
abbrev pub Fits : List ℕ → ℕ → Envelope → Type 0
Fits keyid len e = (signature : List ℕ) → length signature ≡ len → IsBytes signature
    → length (text_of (sealed (signature_of keyid signature) e)) ≤ 1048576

-- or it has more
abbrev pub FitsNot : List ℕ → ℕ → Envelope → Type 0
FitsNot keyid len e = (signature : List ℕ) → length signature ≡ len → IsBytes signature
    → 1048576 < length (text_of (sealed (signature_of keyid signature) e))
