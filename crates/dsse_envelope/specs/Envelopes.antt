-- Envelopes as they are read (DSSE's JSON envelope).
use Rattle.std.specs.Prelude.{ℕ, suc, ◌&&◌, ◌∷◌, ◌++◌, [], Bool, true, List, Option, Some, None, Result, Ok, Err, codes}
use Rattle.std.specs.Prelude.{nat_le, option_and_then, is_some, if◌then◌else◌}
use Rattle.std.specs.Option.{option_map}
use Rattle.serde_json.specs.Data.{Data, Items, item, no_items}
use Rattle.json_fields.specs.Json.{json_of, list_at, text_at, text_at_or_empty}
use Rattle.dsse_envelope.specs.Base64.{decoded}
use Rattle.dsse_envelope.specs.declared.envelope.Envelope.{Envelope}
use Rattle.dsse_envelope.specs.declared.envelope.EnvelopeFault.{EnvelopeFault}
use Rattle.dsse_envelope.specs.declared.envelope.EnvelopeFault.TheVariants.{NotJson, MissingField, BadCount, BadBase64}
use Rattle.dsse_envelope.specs.declared.envelope.Signature.{Signature}

-- the texts of a signature: its key's id, which may be missing, and itself
abbrev pub texts_of : Data → Option (List ℕ × List ℕ)
texts_of d = option_and_then (λ sig. option_map (λ keyid. (keyid, sig)) (text_at_or_empty (codes "keyid") d))
    (text_at (codes "sig") d)

-- how many there are
abbrev pub count_of : Items → ℕ
count_of no_items = 0
count_of (item d ds) = suc (count_of ds)

-- each has its texts
abbrev pub have_texts : Items → Bool
have_texts no_items = true
have_texts (item d ds) = is_some (texts_of d) && have_texts ds

-- a signature whose text decodes
abbrev pub signature_of : Data → Option Signature
signature_of d = option_and_then (λ texts. option_map (λ sig. record { keyid = texts.0; sig = sig }) (decoded texts.1))
    (texts_of d)

abbrev pub signatures_of : Items → Option (List Signature)
signatures_of no_items = Some []
signatures_of (item d ds) = option_and_then (λ s. option_map (λ ss. s ∷ ss) (signatures_of ds)) (signature_of d)

abbrev pub with_bytes : List ℕ → Option (List ℕ) → Option (List Signature) → Result Envelope EnvelopeFault
with_bytes payload_type None signatures = Err BadBase64
with_bytes payload_type (Some payload) None = Err BadBase64
with_bytes payload_type (Some payload) (Some signatures) =
    Ok (record { payload_type = payload_type; payload = payload; signatures = signatures })

abbrev pub with_count : List ℕ → List ℕ → Items → ℕ → Result Envelope EnvelopeFault
with_count payload payload_type ds count =
    (if nat_le 1 count && nat_le count 64 then
    (if have_texts ds then with_bytes payload_type (decoded payload) (signatures_of ds) else Err MissingField)
    else Err (BadCount count))

abbrev pub with_list : List ℕ → List ℕ → Option Items → Result Envelope EnvelopeFault
with_list payload payload_type None = Err MissingField
with_list payload payload_type (Some ds) = with_count payload payload_type ds (count_of ds)

abbrev pub with_type : List ℕ → Option (List ℕ) → Option Items → Result Envelope EnvelopeFault
with_type payload None list = Err MissingField
with_type payload (Some payload_type) list = with_list payload payload_type list

abbrev pub with_payload : Option (List ℕ) → Option (List ℕ) → Option Items → Result Envelope EnvelopeFault
with_payload None payload_type list = Err MissingField
with_payload (Some payload) payload_type list = with_type payload payload_type list

-- what a value is read as
abbrev pub envelope_of : Data → Result Envelope EnvelopeFault
envelope_of d = with_payload (text_at (codes "payload") d) (text_at (codes "payloadType") d)
    (list_at (codes "signatures") d)

abbrev pub from_json : Option Data → Result Envelope EnvelopeFault
from_json None = Err NotJson
from_json (Some d) = envelope_of d

-- what a text is read as, want of memory aside
abbrev pub reading : List ℕ → Result Envelope EnvelopeFault
reading text = from_json (json_of text)

-- the signatures before the meaning of the rest
abbrev pub after : List Signature → Option (List Signature) → Option (List Signature)
after front rest = option_map (λ ss. front ++ ss) rest
