-- A text is read as an envelope, or refused, exactly where a reader says so.
use Rattle.std.proofs.Common.{◌≡◌, ℕ, suc, ◌<◌, ◌⊎◌, Bool, true, false, ◌&&◌, List, [], ◌∷◌, length}
use Rattle.std.proofs.Common.{Option, Some, None, Result, Ok, Err, inl, inr, refl, sym, ap, subst, ◌∙◌, arith}
use Rattle.std.specs.Prelude.{◌↔◌, codes, nat_le, if◌then◌else◌}
use Rattle.std.specs.List.{AllByRecursion}
use Rattle.std.specs.Option.{option_map}
use Rattle.std.specs.Cmp.Derive.{both_true}
use Rattle.std.proofs.lemmas.Bool.{and_parts, cases_lt, false≢true, leb-true, le-leb}
use Rattle.serde_json.specs.Data.{Data, Items, item, no_items}
use Rattle.json_fields.specs.Json.{json_of, list_at, text_at}
use Rattle.dsse_envelope.specs.Base64.{decoded}
use Rattle.dsse_envelope.specs.Envelopes.{count_of, envelope_of, from_json, have_texts, reading}
use Rattle.dsse_envelope.specs.Envelopes.{signatures_of, with_bytes, with_count, with_list, with_payload}
use Rattle.dsse_envelope.specs.Envelopes.{with_type}
use Rattle.dsse_envelope.specs.declared.envelope.Envelope.{Envelope}
use Rattle.dsse_envelope.specs.declared.envelope.EnvelopeFault.{EnvelopeFault}
use Rattle.dsse_envelope.specs.declared.envelope.EnvelopeFault.TheVariants.{NotJson, MissingField, BadCount, BadBase64, Memory}
use Rattle.dsse_envelope.specs.declared.envelope.Signature.{Signature}
use Rattle.reading_laws.specs.EnvelopeTexts.{AreSignatures, DoesNotDecode, HasBadBase64, HasCount, HasFields}
use Rattle.reading_laws.specs.EnvelopeTexts.{HasTexts, IsCount, IsEnvelope, IsJsonReadAs, IsReadAs}
use Rattle.reading_laws.specs.EnvelopeTexts.{IsValueReadAs, LacksField, LacksTexts}
use Rattle.reading_laws.specs.EnvelopeTexts.{SomeIs, values_of}
use Rattle.reading_laws.proofs.EnvelopeSignatures.{all_have, decode_or_one, one_lacks, one_undecoded, signatures_there, texts_or_one}

abbrev Text : Type 0
Text = List ℕ

abbrev Answer : Type 0
Answer = Result Envelope EnvelopeFault

-- ---- counts

count_is : (ds : Items) → count_of ds ≡ length (values_of ds)
count_is no_items = refl
count_is (item d ds) = ap suc (count_is ds)

count_test : (n : ℕ) → IsCount n → (nat_le 1 n && nat_le n 64) ≡ true
count_test n is = both_true (le-leb 1 n is.0) (le-leb n 64 is.1)

count_from : (n : ℕ) → (nat_le 1 n && nat_le n 64) ≡ true → IsCount n
count_from n test = let parts = and_parts (nat_le 1 n) (nat_le n 64) test in (leb-true 1 n parts.0, leb-true n 64 parts.1)

no_count : (n : ℕ) → (n ≡ 0) ⊎ (64 < n) → (nat_le 1 n && nat_le n 64) ≡ false
no_count n other = by_test (nat_le 1 n && nat_le n 64) refl
  where
    by_test : (b : Bool) → (nat_le 1 n && nat_le n 64) ≡ b → b ≡ false
    by_test false is = refl
    by_test true is =
        let within = count_from n is in
        let low = within.0 in
        let high = within.1 in
        absurd (elim other [ inl none ↦ omega (arith, low, none) | inr more ↦ omega (arith, high, more) ])

count_other : (n : ℕ) → (nat_le 1 n && nat_le n 64) ≡ false → (n ≡ 0) ⊎ (64 < n)
count_other n test = elim (cases_lt 0 n) [
  | inl some ↦ elim (cases_lt 64 n) [
    | inl more ↦ inr more
    | inr few ↦ absurd (false≢true (sym test ∙ count_test n (omega (arith, some), omega (arith, few))))
  ]
  | inr none ↦ inl (omega (arith, none))
]

-- ---- what is answered is so

module _ (d : Data) (payload payload_type : Text) (ds : Items) (fields : HasFields d payload payload_type (values_of ds)) where
  bytes_so : (count : IsCount (length (values_of ds))) (texts : AllByRecursion HasTexts (values_of ds)) (o : Option Text) → decoded payload ≡ o
      → IsValueReadAs d (with_bytes payload_type o (signatures_of ds))
  bytes_so count texts None is =
      record { payload = payload; payload_type = payload_type; signatures = values_of ds; fields = fields; count = count; texts = texts; one = inl is }
  bytes_so count texts (Some bytes) is = elim (decode_or_one ds texts) [
    | inl found ↦
        subst (λ (o : Option (List Signature)). IsValueReadAs d (with_bytes payload_type (Some bytes) o)) (sym found.1)
        (record { payload = payload; signatures = values_of ds; fields = fields; count = count; decodes = is; each = found.2 })
    | inr one ↦
        subst (λ (o : Option (List Signature)). IsValueReadAs d (with_bytes payload_type (Some bytes) o)) (sym one.0)
        (record { payload = payload; payload_type = payload_type; signatures = values_of ds; fields = fields; count = count; texts = texts; one = inr one.1 })
  ]

  texts_so : (count : IsCount (length (values_of ds))) → IsValueReadAs d
      (if have_texts ds then with_bytes payload_type (decoded payload) (signatures_of ds) else Err MissingField)
  texts_so count = elim (texts_or_one ds) [
    | inl all ↦
        subst (λ (b : Bool). IsValueReadAs d (if b then with_bytes payload_type (decoded payload) (signatures_of ds) else Err MissingField))
        (sym all.0)
        (bytes_so count all.1 (decoded payload) refl)
    | inr lacks ↦
        subst (λ (b : Bool). IsValueReadAs d (if b then with_bytes payload_type (decoded payload) (signatures_of ds) else Err MissingField))
        (sym lacks.0)
        (inr (record { payload = payload; payload_type = payload_type; signatures = values_of ds; fields = fields; count = count; one = lacks.1 }))
  ]

  count_so : (b : Bool) → (nat_le 1 (count_of ds) && nat_le (count_of ds) 64) ≡ b
      → IsValueReadAs d (if b then (if have_texts ds then with_bytes payload_type (decoded payload) (signatures_of ds) else Err MissingField) else Err
      (BadCount (count_of ds)))
  count_so true test = texts_so (subst IsCount (count_is ds) (count_from (count_of ds) test))
  count_so false test =
      record {
        payload = payload;
        payload_type = payload_type;
        signatures = values_of ds;
        fields = fields;
        counted = count_is ds;
        other = count_other (count_of ds) test;
      }

value_by : (d : Data) (payload payload_type : Option Text) (list : Option Items) → text_at (codes "payload") d ≡ payload
    → text_at (codes "payloadType") d ≡ payload_type → list_at (codes "signatures") d ≡ list
    → IsValueReadAs d (with_payload payload payload_type list)
value_by d None payload_type list p t l = inl (inl p)
value_by d (Some payload) None list p t l = inl (inr (inl t))
value_by d (Some payload) (Some payload_type) None p t l = inl (inr (inr l))
value_by d (Some payload) (Some payload_type) (Some ds) p t l =
    count_so d payload payload_type ds (record { payload_is = p; type_is = t; signatures_are = ap (option_map values_of) l })
    (nat_le 1 (count_of ds) && nat_le (count_of ds) 64) refl

value_so : (d : Data) → IsValueReadAs d (envelope_of d)
value_so d = value_by d (text_at (codes "payload") d) (text_at (codes "payloadType") d) (list_at (codes "signatures") d) refl refl refl

-- ---- what is so is answered

-- the list of these values
list_from : (o : Option Items) (ds : List Data) → option_map values_of o ≡ Some ds → (items : Items) × (o ≡ Some items) × (values_of items ≡ ds)
list_from None ds is = cc is
list_from (Some items) ds is = (items, refl, cc is)

record Listed (d : Data) (payload payload_type : Text) (ds : List Data) : Type 0 where
  pub items : Items
  pub values : values_of items ≡ ds
  pub answer : envelope_of d ≡ with_count payload payload_type items (count_of items)
  pub counted : count_of items ≡ length ds

listed : (d : Data) (payload payload_type : Text) (ds : List Data) → HasFields d payload payload_type ds → Listed d payload payload_type ds
listed d payload payload_type ds fields =
    let list = list_from (list_at (codes "signatures") d) ds fields.signatures_are in
    record {
      items = list.0;
      values = list.2;
      answer = ap (λ (o : Option Text). with_payload o (text_at (codes "payloadType") d) (list_at (codes "signatures") d)) fields.payload_is
          ∙ ap (λ (o : Option Text). with_type payload o (list_at (codes "signatures") d)) fields.type_is
          ∙ ap (λ (o : Option Items). with_list payload payload_type o) list.1;
      counted = count_is list.0 ∙ ap length list.2;
    }

abbrev counted_as : Text → Text → Items → Bool → Answer
counted_as payload payload_type items b =
    if b then (if have_texts items then with_bytes payload_type (decoded payload) (signatures_of items) else Err MissingField) else Err
    (BadCount (count_of items))

abbrev texts_as : Text → Text → Items → Bool → Answer
texts_as payload payload_type items b = if b then with_bytes payload_type (decoded payload) (signatures_of items) else Err MissingField

-- past the count
within : (d : Data) (payload payload_type : Text) (ds : List Data) (is : Listed d payload payload_type ds) → IsCount (length ds)
    → envelope_of d ≡ texts_as payload payload_type is.items (have_texts is.items)
within d payload payload_type ds is count =
    is.answer ∙ ap (counted_as payload payload_type is.items) (count_test (count_of is.items) (subst IsCount (sym is.counted) count))

-- past the texts
with_texts : (d : Data) (payload payload_type : Text) (ds : List Data) (is : Listed d payload payload_type ds) → IsCount (length ds)
    → AllByRecursion HasTexts ds
    → envelope_of d ≡ with_bytes payload_type (decoded payload) (signatures_of is.items)
with_texts d payload payload_type ds is count all =
    within d payload payload_type ds is count ∙ ap (texts_as payload payload_type is.items)
    (all_have is.items (subst (AllByRecursion HasTexts) (sym is.values) all))

have_all : (ds : List Data) (ss : List Signature) → AreSignatures ds ss → AllByRecursion HasTexts ds
have_all [] [] are = tt
have_all [] (s ∷ ss) are = absurd are
have_all (d ∷ ds) [] are = absurd are
have_all (d ∷ ds) (s ∷ ss) are = ((s.keyid, are.0.0, are.0.1), have_all ds ss are.1)

envelope_there : (d : Data) (e : Envelope) → IsEnvelope d e → envelope_of d ≡ Ok e
envelope_there d e is =
    let there = listed d is.payload e.payload_type is.signatures is.fields in
    with_texts d is.payload e.payload_type is.signatures there is.count (have_all is.signatures e.signatures is.each)
    ∙ ap (λ (o : Option Text). with_bytes e.payload_type o (signatures_of there.items)) is.decodes
    ∙ ap (λ (o : Option (List Signature)). with_bytes e.payload_type (Some e.payload) o)
    (signatures_there there.items e.signatures (subst (λ (ds : List Data). AreSignatures ds e.signatures) (sym there.values) is.each))

no_type : (payload : Option Text) (list : Option Items) → with_payload payload None list ≡ Err MissingField
no_type None list = refl
no_type (Some payload) list = refl

no_list : (payload payload_type : Option Text) → with_payload payload payload_type None ≡ Err MissingField
no_list None payload_type = refl
no_list (Some payload) None = refl
no_list (Some payload) (Some payload_type) = refl

field_there : (d : Data) → LacksField d → envelope_of d ≡ Err MissingField
field_there d (inl p) = ap (λ (o : Option Text). with_payload o (text_at (codes "payloadType") d) (list_at (codes "signatures") d)) p
field_there d (inr (inl t)) =
    ap (λ (o : Option Text). with_payload (text_at (codes "payload") d) o (list_at (codes "signatures") d)) t
    ∙ no_type (text_at (codes "payload") d) (list_at (codes "signatures") d)
field_there d (inr (inr l)) =
    ap (λ (o : Option Items). with_payload (text_at (codes "payload") d) (text_at (codes "payloadType") d) o) l
    ∙ no_list (text_at (codes "payload") d) (text_at (codes "payloadType") d)

lacking_there : (d : Data) → LacksTexts d → envelope_of d ≡ Err MissingField
lacking_there d is =
    let there = listed d is.payload is.payload_type is.signatures is.fields in
    within d is.payload is.payload_type is.signatures there is.count
    ∙ ap (texts_as is.payload is.payload_type there.items) (one_lacks there.items (subst (SomeIs (λ s. HasTexts s → ⊥)) (sym there.values) is.one))

missing_there : (d : Data) → LacksField d ⊎ LacksTexts d → envelope_of d ≡ Err MissingField
missing_there d (inl field) = field_there d field
missing_there d (inr texts) = lacking_there d texts

count_there : (d : Data) (n : ℕ) → HasCount d n → envelope_of d ≡ Err (BadCount n)
count_there d n is =
    let there = listed d is.payload is.payload_type is.signatures is.fields in
    let same : count_of there.items ≡ n = there.counted ∙ sym is.counted in
    there.answer
    ∙ ap (counted_as is.payload is.payload_type there.items) (no_count (count_of there.items)
    (subst (λ (n : ℕ). (n ≡ 0) ⊎ (64 < n)) (sym same) is.other))
    ∙ ap (λ (n : ℕ). Err (BadCount n)) same

undecoded : (payload_type : Text) (bytes : Option Text) → with_bytes payload_type bytes None ≡ Err BadBase64
undecoded payload_type None = refl
undecoded payload_type (Some bytes) = refl

base64_there : (d : Data) → HasBadBase64 d → envelope_of d ≡ Err BadBase64
base64_there d is =
    let there = listed d is.payload is.payload_type is.signatures is.fields in
    with_texts d is.payload is.payload_type is.signatures there is.count is.texts ∙ bad is.one there
  where
    bad : (decoded is.payload ≡ None) ⊎ SomeIs DoesNotDecode is.signatures → (there : Listed d is.payload is.payload_type is.signatures)
        → with_bytes is.payload_type (decoded is.payload) (signatures_of there.items) ≡ Err BadBase64
    bad (inl none) there = ap (λ (o : Option Text). with_bytes is.payload_type o (signatures_of there.items)) none
    bad (inr one) there =
        ap (λ (o : Option (List Signature)). with_bytes is.payload_type (decoded is.payload) o)
        (one_undecoded there.items one.0 one.1 one.2 (there.values ∙ one.3) one.4)
        ∙ undecoded is.payload_type (decoded is.payload)

value_there : (d : Data) (r : Answer) → IsValueReadAs d r → envelope_of d ≡ r
value_there d (Ok e) is = envelope_there d e is
value_there d (Err NotJson) is = absurd is
value_there d (Err MissingField) is = missing_there d is
value_there d (Err (BadCount n)) is = count_there d n is
value_there d (Err BadBase64) is = base64_there d is
value_there d (Err Memory) is = absurd is

-- ---- exactly where

json_so : (o : Option Data) (text : Text) (r : Answer) → json_of text ≡ o → (reading text ≡ r) ↔ IsJsonReadAs o r
json_so None text r is =
    let none : reading text ≡ Err NotJson = ap from_json is in
    (λ so. sym so ∙ none, λ there. none ∙ sym there)
json_so (Some d) text r is =
    let value : reading text ≡ envelope_of d = ap from_json is in
    (λ so. subst (IsValueReadAs d) (sym value ∙ so) (value_so d), λ there. value ∙ value_there d r there)

pub read_where : (text : Text) (r : Answer) → (reading text ≡ r) ↔ IsReadAs text r
read_where text r = json_so (json_of text) text r refl
