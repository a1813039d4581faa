-- What is written for an envelope, and when what is written reads as it.
use Rattle.std.specs.Prelude.{◌≡◌, ℕ, ◌≤◌, All, List, map, length, Some, codes, IsUtf8}
use Rattle.base64.specs.Engines.{standard}
use Rattle.base64.specs.GeneralPurpose.{encode_of}
use Rattle.serde_json.specs.Data.{Data, array, object, string, member, no_members}
use Rattle.serde_json.specs.View.{items_of}
use Rattle.serde_json.specs.Written.{compact_text}
use Rattle.dsse_envelope.specs.Envelopes.{signature_of}
use Rattle.dsse_envelope.specs.declared.envelope.Envelope.{Envelope}
use Rattle.dsse_envelope.specs.declared.envelope.Signature.{Signature}

-- bytes as a text of standard base64 with padding
abbrev pub base64_text : List ℕ → List ℕ
base64_text bytes = encode_of standard bytes

abbrev pub base64_data : List ℕ → Data
base64_data bytes = string (base64_text bytes)

-- the value of a signature
abbrev pub signature_data : Signature → Data
signature_data s = object (member (codes "keyid") (string s.keyid)
    (member (codes "sig") (base64_data s.sig) no_members))

-- the value of an envelope
abbrev pub envelope_data : Envelope → Data
envelope_data e =
    object (member (codes "payload") (base64_data e.payload)
    (member (codes "payloadType") (string e.payload_type)
    (member (codes "signatures") (array (items_of (map signature_data e.signatures))) no_members)))

-- the text of an envelope: nothing stands between its tokens, and the fields have this order
abbrev pub text_of : Envelope → List ℕ
text_of e = compact_text (envelope_data e)

-- what is written for a signature reads as it
abbrev pub ReadsBack : Signature → Type 0
ReadsBack s = signature_of (signature_data s) ≡ Some s

-- the id of the key is UTF-8
abbrev pub HasTextId : Signature → Type 0
HasTextId s = IsUtf8 s.keyid

-- an envelope that can be written: 1 to 64 signatures, and texts that are UTF-8
pub record IsWritable (e : Envelope) : Type 0 where
  pub some : 1 ≤ length e.signatures
  pub few : length e.signatures ≤ 64
  pub type_text : IsUtf8 e.payload_type
  pub ids : All HasTextId e.signatures
