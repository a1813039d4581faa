-- What a text is read as where envelopes are wanted (DSSE's JSON envelope): the envelope that it is, or why it is
-- none.
use Rattle.std.specs.Prelude.{◌≡◌, ◌≤◌, ◌<◌, ◌⊎◌, ◌++◌, ℕ, List, [], ◌∷◌, length, Option, Some, None, Result, Ok, Err}
use Rattle.std.specs.Prelude.{codes}
use Rattle.std.specs.List.{AllByRecursion}
use Rattle.std.specs.Option.{option_map}
use Rattle.serde_json.specs.Data.{Data, Items, item, no_items}
use Rattle.serde_json.specs.Find.{get}
use Rattle.json_fields.specs.Json.{json_of, list_at, text_at}
use Rattle.dsse_envelope.specs.Base64.{decoded}
use Rattle.dsse_envelope.specs.declared.envelope.Envelope.{Envelope}
use Rattle.dsse_envelope.specs.declared.envelope.EnvelopeFault.{EnvelopeFault}
use Rattle.dsse_envelope.specs.declared.envelope.EnvelopeFault.TheVariants.{NotJson, MissingField, BadCount, BadBase64}
use Rattle.dsse_envelope.specs.declared.envelope.EnvelopeFault.TheVariants.{Memory}
use Rattle.dsse_envelope.specs.declared.envelope.Signature.{Signature}

-- ---- signatures

-- the values of a JSON list
abbrev pub values_of : Items → List Data
values_of no_items = []
values_of (item d ds) = d ∷ values_of ds

-- the id of a signature's key is the text under `keyid`, and empty where nothing stands there
abbrev pub IsKeyId : Data → List ℕ → Type 0
IsKeyId d keyid = ((get (codes "keyid") d ≡ None) × (keyid ≡ [])) ⊎ (text_at (codes "keyid") d ≡ Some keyid)

-- the texts of a signature: that id, and what stands under `sig`
abbrev pub SignatureTexts : Data → List ℕ → List ℕ → Type 0
SignatureTexts d keyid sig = IsKeyId d keyid × (text_at (codes "sig") d ≡ Some sig)

abbrev pub HasTexts : Data → Type 0
HasTexts d = (keyid : List ℕ) × (sig : List ℕ) × SignatureTexts d keyid sig

-- the value is a signature whose text decodes to these bytes
abbrev pub IsSignature : Data → Signature → Type 0
IsSignature d s = (sig : List ℕ) × SignatureTexts d s.keyid sig × (decoded sig ≡ Some s.sig)

abbrev pub AreSignatures : List Data → List Signature → Type 0
AreSignatures [] [] = Unit {0}
AreSignatures [] (s ∷ ss) = ⊥
AreSignatures (d ∷ ds) [] = ⊥
AreSignatures (d ∷ ds) (s ∷ ss) = IsSignature d s × AreSignatures ds ss

-- the value has the texts of a signature, of which that of the signature does not decode
abbrev pub DoesNotDecode : Data → Type 0
DoesNotDecode d = (keyid : List ℕ) × (sig : List ℕ) × SignatureTexts d keyid sig × (decoded sig ≡ None)

-- one of the values is such a one
abbrev pub SomeIs : (Data → Type 0) → List Data → Type 0
SomeIs P ds = (front : List Data) × (d : Data) × (rest : List Data) × (ds ≡ front ++ d ∷ rest) × P d

-- ---- the value

-- the texts of payload and type, and the list of signatures
pub record HasFields (d : Data) (payload payload_type : List ℕ) (signatures : List Data) : Type 0 where
  pub payload_is : text_at (codes "payload") d ≡ Some payload
  pub type_is : text_at (codes "payloadType") d ≡ Some payload_type
  pub signatures_are : option_map values_of (list_at (codes "signatures") d) ≡ Some signatures

abbrev pub IsCount : ℕ → Type 0
IsCount n = (1 ≤ n) × (n ≤ 64)

-- an envelope: 1 to 64 signatures, each with its texts, and each base64 text decodes
pub record IsEnvelope (d : Data) (e : Envelope) : Type 0 where
  pub payload : List ℕ
  pub signatures : List Data
  pub fields : HasFields d payload e.payload_type signatures
  pub count : IsCount (length signatures)
  pub decodes : decoded payload ≡ Some e.payload
  pub each : AreSignatures signatures e.signatures

-- of the payload, the type and the list one is not there or of another kind
abbrev pub LacksField : Data → Type 0
LacksField d = (text_at (codes "payload") d ≡ None) ⊎ (text_at (codes "payloadType") d ≡ None)
    ⊎ (list_at (codes "signatures") d ≡ None)

-- there are 1 to 64 signatures, of which one lacks its texts
pub record LacksTexts (d : Data) : Type 0 where
  pub payload : List ℕ
  pub payload_type : List ℕ
  pub signatures : List Data
  pub fields : HasFields d payload payload_type signatures
  pub count : IsCount (length signatures)
  pub one : SomeIs (λ s. HasTexts s → ⊥) signatures

-- there are so many signatures, which are none or more than 64
pub record HasCount (d : Data) (n : ℕ) : Type 0 where
  pub payload : List ℕ
  pub payload_type : List ℕ
  pub signatures : List Data
  pub fields : HasFields d payload payload_type signatures
  pub counted : n ≡ length signatures
  pub other : (n ≡ 0) ⊎ (64 < n)

-- all is there, and the payload or a signature does not decode
pub record HasBadBase64 (d : Data) : Type 0 where
  pub payload : List ℕ
  pub payload_type : List ℕ
  pub signatures : List Data
  pub fields : HasFields d payload payload_type signatures
  pub count : IsCount (length signatures)
  pub texts : AllByRecursion HasTexts signatures
  pub one : (decoded payload ≡ None) ⊎ SomeIs DoesNotDecode signatures

abbrev pub IsValueReadAs : Data → Result Envelope EnvelopeFault → Type 0
IsValueReadAs d (Ok e) = IsEnvelope d e
IsValueReadAs d (Err NotJson) = ⊥
IsValueReadAs d (Err MissingField) = LacksField d ⊎ LacksTexts d
IsValueReadAs d (Err (BadCount n)) = HasCount d n
IsValueReadAs d (Err BadBase64) = HasBadBase64 d
IsValueReadAs d (Err Memory) = ⊥

-- ---- the text

abbrev pub IsJsonReadAs : Option Data → Result Envelope EnvelopeFault → Type 0
IsJsonReadAs None r = r ≡ Err NotJson
IsJsonReadAs (Some d) r = IsValueReadAs d r

-- no JSON is refused as such, and a JSON value is read by what it is
abbrev pub IsReadAs : List ℕ → Result Envelope EnvelopeFault → Type 0
IsReadAs text r = IsJsonReadAs (json_of text) r
