-- What stands in a written line is read from it, and none of them holds a line feed.
use Rattle.std.proofs.Common.{◌≡◌, ℕ, ◌<◌, ◌≤◌, Bool, true, false, List, ◌++◌, length, drop, Option, Some, None, inl, inr, refl, sym, ap, ◌∙◌, arith}
use Rattle.std.specs.Prelude.{codes, decimal, if◌then◌else◌}
use Rattle.std.specs.Option.{option_and_then}
use Rattle.std.specs.Str.{bytes_eq}
use Rattle.std.proofs.lemmas.Bool.{cases_eq, eq-eqb, le-leb, ne_eqb}
use Rattle.std.proofs.lemmas.List.{drop_at, take_at}
use Rattle.std.proofs.lemmas.Slice.Eq.{bytes_eq-Decides}
use Rattle.base64.specs.GeneralPurpose.{IsBytes}
use Rattle.hex.specs.Hex.{encode_lower}
use Rattle.git_object.specs.Ids.{IsId}
use Rattle.git_object.specs.Names.{IsRefName, log_name}
use Rattle.git_object.proofs.IdLemmas.{length-hexadecimal}
use Rattle.rsl_chain.specs.Chain.{IsHead}
use Rattle.rsl_chain.specs.Drafts.{number_line, signature_line}
use Rattle.rsl_chain.specs.Grammar.{fits, number_if, number_step}
use Rattle.rsl_chain.specs.Lines.{both_parts, decoded, id_after, id_text, name_after, name_text, number_after, number_text, signature_after, signature_text, signed_text, strip}
use Rattle.rsl_chain.specs.declared.places.Part.TheVariants.{Number}
use Rattle.rsl_chain.specs.declared.places.Place.{Place}
use Rattle.rsl_chain.specs.declared.places.Want.{Want}
use Rattle.rsl_chain.specs.declared.words.SignatureLine.{SignatureLine}
use Rattle.rsl_chain.proofs.Pieces.{base64, base64_decoded, base64_plain, piece_some}
use Rattle.rsl_chain.proofs.PlainLines.{Plain, decimal_plain, id_plain}
use Rattle.rsl_chain.proofs.Runs.{at}
use Rattle.rsl_chain.proofs.WordLemmas.{id_there, name_there, number_there, strip_there}
use Rattle.text_reader.proofs.Unique.{no_byte}

abbrev Text : Type 0
Text = List ℕ

pub id_read : (word id : Text) → IsId id → id_after word (word ++ encode_lower id) ≡ Some id
id_read word id is = ap (option_and_then id_text) (strip_there word (word ++ encode_lower id) (encode_lower id) refl) ∙ id_there (encode_lower id) id refl is

pub id_line_plain : (word id : Text) → Plain word → IsId id → Plain (word ++ encode_lower id)
id_line_plain word id none is = no_byte 10 word (encode_lower id) none (id_plain id is)

pub name_read : (name : Text) → IsRefName name → (name ≡ log_name → ⊥) → name_after (codes "ref: " ++ name) ≡ Some name
name_read name is never =
    ap (option_and_then name_text) (strip_there (codes "ref: ") (codes "ref: " ++ name) name refl)
    ∙ sym (name_there name name (other (bytes_eq name log_name) refl) refl is)
  where
    other : (b : Bool) → bytes_eq name log_name ≡ b → b ≡ false
    other true is_log = absurd (never ((bytes_eq-Decides name log_name).0 is_log))
    other false is_log = refl

pub number_read : (n : ℕ) → n ≤ 1000000 → number_after (number_line n) ≡ Some n
number_read n most = ap (option_and_then number_text) (strip_there (codes "number: ") (number_line n) (decimal n) refl) ∙ number_there (decimal n) n refl most

pub number_plain : (n : ℕ) → n ≤ 1000000 → Plain (number_line n)
number_plain n most = no_byte 10 (codes "number: ") (decimal n) refl (decimal_plain n (omega (arith, most)))

number_fits : (n : ℕ) (parent : Option Text) → IsHead (record { number = n; parent = parent }) → fits n parent ≡ true
number_fits n None is = eq-eqb n 1 (is.first.1 refl)
number_fits n (Some id) is = elim (cases_eq n 1) [
  | inl one ↦
      let never : Some id ≡ None = is.first.0 one in
      cc never
  | inr other ↦
      let some = is.some in
      le-leb 2 n (omega (arith, some, other))
]

pub numbered : (want : Want) (parent : Option Text) (p : Place) (n : ℕ) → p.parent ≡ parent → IsHead (record { number = n; parent = parent })
    → number_step want (number_after (number_line n)) p ≡ Some (record { place = at want p.parent n p.ids; part = Number n })
numbered want parent p n same is =
    ap (λ (o : Option ℕ). number_step want o p) (number_read n is.most) ∙ ap (λ (b : Bool). number_if b want n p) (ap (fits n) same ∙ number_fits n parent is)

-- a key's id, and a signature that is not empty
pub record IsSignature (s : SignatureLine) : Type 0 where
  pub signer : IsId s.signer
  pub some : 0 < length s.signature
  pub bytes : IsBytes s.signature

pub signature_read : (s : SignatureLine) → IsSignature s → signature_after (signature_line s) ≡ Some s
signature_read s is =
    let text = encode_lower s.signer ++ (codes " " ++ base64 s.signature) in
    let some = piece_some s.signature is.some in
    ap (option_and_then signed_text) (strip_there (codes "lmssig ") (signature_line s) text refl)
    ∙ ap (λ (t : Text). both_parts (id_text t) (option_and_then signature_text (strip (codes " ") (drop 64 text)))) (take_at (encode_lower s.signer) (codes " " ++ base64 s.signature) 64 (length-hexadecimal s.signer is.signer))
    ∙ ap (λ (o : Option Text). both_parts o (option_and_then signature_text (strip (codes " ") (drop 64 text)))) (id_there (encode_lower s.signer) s.signer refl is.signer)
    ∙ ap (λ (t : Text). both_parts (Some s.signer) (option_and_then signature_text (strip (codes " ") t))) (drop_at (encode_lower s.signer) (codes " " ++ base64 s.signature) 64 (length-hexadecimal s.signer is.signer))
    ∙ ap (λ (b : Bool). both_parts (Some s.signer) (if b then None else decoded (base64 s.signature))) (ne_eqb (length (base64 s.signature)) 0 (λ e. omega (arith, some, e)))
    ∙ ap (both_parts (Some s.signer)) (base64_decoded s.signature is.bytes)

pub signature_plain : (s : SignatureLine) → IsSignature s → Plain (signature_line s)
signature_plain s is =
    no_byte 10 (codes "lmssig ") (encode_lower s.signer ++ (codes " " ++ base64 s.signature)) refl
    (no_byte 10 (encode_lower s.signer) (codes " " ++ base64 s.signature) (id_plain s.signer is.signer) (base64_plain s.signature))
