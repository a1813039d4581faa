-- What is written for an envelope reads as it.
use Rattle.std.proofs.Common.{◌≡◌, ◌≤◌, ℕ, suc, List, [], ◌∷◌, Bool, true, false, All, length, lit≤, map, refl, ap, subst, ◌∙◌, arith}
use Rattle.std.specs.Prelude.{◌&&◌, Err, IfOk, Ok, Option, Result, Some, cond, nat_le}
use Rattle.std.proofs.lemmas.Bool.{le-leb}
use Rattle.std.proofs.lemmas.List.Elements.{All-head, All-tail}
use Rattle.std.proofs.lemmas.Result.{IfOk-weaker}
use Rattle.json_fields.proofs.Written.{as_deep, json_text, no_float as none_float}
use Rattle.serde_json.specs.Data.{Data, depth}
use Rattle.serde_json.specs.Read.{max_depth}
use Rattle.serde_json.specs.View.{items_of}
use Rattle.serde_json.specs.Written.{has_float}
use Rattle.json_fields.specs.Json.{json_of}
use Rattle.dsse_envelope.specs.Base64.{decoded}
use Rattle.dsse_envelope.specs.Envelopes.{count_of, envelope_of, from_json, have_texts, reading, signatures_of, with_bytes}
use Rattle.dsse_envelope.specs.Written.{ReadsBack, base64_text, envelope_data, signature_data}
use Rattle.dsse_envelope.specs.declared.envelope.Envelope.{Envelope}
use Rattle.dsse_envelope.specs.declared.envelope.EnvelopeFault.TheVariants.{BadCount, MissingField}
use Rattle.dsse_envelope.specs.declared.envelope.Signature.{Signature}

written_count : (ss : List Signature) → count_of (items_of (map signature_data ss)) ≡ length ss
written_count [] = refl
written_count (s ∷ ss) = ap suc (written_count ss)

written_texts : (ss : List Signature) → have_texts (items_of (map signature_data ss)) ≡ true
written_texts [] = refl
written_texts (s ∷ ss) = written_texts ss

written_signatures : (ss : List Signature) → All ReadsBack ss → signatures_of (items_of (map signature_data ss)) ≡ Some ss
written_signatures [] h = refl
written_signatures (s ∷ ss) h = rw (All-head ReadsBack s ss h) (rw (written_signatures ss (All-tail ReadsBack s ss h)) refl)

of_count : (e : Envelope) (payload : Option (List ℕ)) (signatures : Option (List Signature)) (count : ℕ) (texts : Bool) → 1 ≤ count → count ≤ 64 → texts ≡ true → payload ≡ Some e.payload → signatures ≡ Some e.signatures
    → cond (nat_le 1 count && nat_le count 64) (cond texts (with_bytes e.payload_type payload signatures) (Err MissingField)) (Err (BadCount count)) ≡ Ok e
of_count e payload signatures count texts some few there ok both = rw (le-leb 1 count some, le-leb count 64 few, there, ok, both) refl

pub written_reads : (e : Envelope) (payload : List ℕ) (signatures : List Signature) → 1 ≤ length e.signatures → length e.signatures ≤ 64 → payload ≡ e.payload → signatures ≡ e.signatures
    → decoded (base64_text payload) ≡ Some payload → All ReadsBack signatures → envelope_of (envelope_data e) ≡ Ok e
written_reads e payload signatures some few is are decodes reads =
    let ds = items_of (map signature_data e.signatures) in
    let count = written_count e.signatures in
    let first : decoded (base64_text e.payload) ≡ Some e.payload = subst (λ (p : List ℕ). decoded (base64_text p) ≡ Some p) is decodes in
    let more : signatures_of ds ≡ Some e.signatures = written_signatures e.signatures (subst (All ReadsBack) are reads) in
    of_count e (decoded (base64_text e.payload)) (signatures_of ds) (count_of ds) (have_texts ds) (rw count some) (rw count few) (written_texts e.signatures) first more

pub no_float : (e : Envelope) → has_float (envelope_data e) ≡ false
no_float e = rw (none_float signature_data (λ s. refl) e.signatures) refl

pub shallow : (e : Envelope) → depth (envelope_data e) ≤ max_depth
shallow e = let inside = as_deep signature_data 1 (λ s. lit≤ tt) e.signatures in omega arith

pub text_reads : {E : Type 0} (r : Result (List ℕ) E) (v : Data) (e : Envelope) → v ≡ envelope_data e → envelope_of (envelope_data e) ≡ Ok e → IfOk r (λ t. depth v ≤ max_depth → json_of t ≡ Some v) → IfOk r (λ t. reading t ≡ Ok e)
text_reads r v e is reads h = IfOk-weaker r _ _ (λ t json. ap from_json json ∙ reads) (json_text r v (envelope_data e) is (shallow e) h)
