-- Each signature of an envelope has its texts and decodes, or one lacks them or does not.
use Rattle.std.proofs.Common.{◌≡◌, ℕ, ◌⊎◌, Bool, true, false, ◌&&◌, List, [], ◌∷◌, ◌++◌}
use Rattle.std.proofs.Common.{Option, Some, None, inl, inr, refl, sym, ap, subst, ◌∙◌}
use Rattle.std.specs.Prelude.{codes, is_some}
use Rattle.std.specs.List.{AllByRecursion}
use Rattle.std.specs.Option.{option_and_then, option_map}
use Rattle.std.proofs.lemmas.Bool.{false≢true}
use Rattle.serde_json.specs.Data.{Data, Items, item, no_items}
use Rattle.serde_json.specs.Find.{as_str, get}
use Rattle.json_fields.specs.Json.{or_empty, text_at, text_at_or_empty}
use Rattle.dsse_envelope.specs.Base64.{decoded}
use Rattle.dsse_envelope.specs.Envelopes.{have_texts, signature_of}
use Rattle.dsse_envelope.specs.Envelopes.{signatures_of, texts_of}
use Rattle.dsse_envelope.specs.declared.envelope.Signature.{Signature}
use Rattle.reading_laws.specs.EnvelopeTexts.{AreSignatures, DoesNotDecode}
use Rattle.reading_laws.specs.EnvelopeTexts.{HasTexts}
use Rattle.reading_laws.specs.EnvelopeTexts.{SignatureTexts}
use Rattle.reading_laws.specs.EnvelopeTexts.{SomeIs, values_of}

abbrev Text : Type 0
Text = List ℕ

-- ---- the texts of a signature

key_is : (o : Option Data) (keyid : Text) → or_empty o ≡ Some keyid → ((o ≡ None) × (keyid ≡ [])) ⊎ (option_and_then as_str o ≡ Some keyid)
key_is None keyid is = inl (refl, sym (inner is))
  where
    inner : ◌≡◌ {A = Option Text} (Some []) (Some keyid) → [] ≡ keyid
    inner is = cc is
key_is (Some d) keyid is = inr is

key_there : (o : Option Data) (keyid : Text) → ((o ≡ None) × (keyid ≡ [])) ⊎ (option_and_then as_str o ≡ Some keyid) → or_empty o ≡ Some keyid
key_there o keyid (inl none) = ap or_empty none.0 ∙ ap Some (sym none.1)
key_there None keyid (inr text) = cc text
key_there (Some d) keyid (inr text) = text

abbrev Both : Type 0
Both = Text × Text

-- both texts, where both are there
abbrev both_texts : Option Text → Option Text → Option Both
both_texts sig keyid = option_and_then (λ sig. option_map (λ keyid. (keyid, sig)) keyid) sig

texts_from : (sig keyid : Option Text) (k s : Text) → both_texts sig keyid ≡ Some (k, s) → (keyid ≡ Some k) × (sig ≡ Some s)
texts_from None keyid k s is = cc is
texts_from (Some sig) None k s is = cc is
texts_from (Some sig) (Some keyid) k s is =
    let same : ◌≡◌ {A = Both} (keyid, sig) (k, s) = cc is in
    (ap (λ (t : Both). Some t.0) same, ap (λ (t : Both). Some t.1) same)

texts_are : (d : Data) (keyid sig : Text) → texts_of d ≡ Some (keyid, sig) → SignatureTexts d keyid sig
texts_are d keyid sig is =
    let parts = texts_from (text_at (codes "sig") d) (text_at_or_empty (codes "keyid") d) keyid sig is in
    (key_is (get (codes "keyid") d) keyid parts.0, parts.1)

texts_there : (d : Data) (keyid sig : Text) → SignatureTexts d keyid sig → texts_of d ≡ Some (keyid, sig)
texts_there d keyid sig is =
    ap (λ (o : Option Text). both_texts o (text_at_or_empty (codes "keyid") d)) is.1
    ∙ ap (both_texts (Some sig)) (key_there (get (codes "keyid") d) keyid is.0)

has_texts : (d : Data) (o : Option Both) → texts_of d ≡ o → is_some o ≡ true → HasTexts d
has_texts d None is some = absurd (false≢true some)
has_texts d (Some t) is some = (t.0, t.1, texts_are d t.0 t.1 is)

lacks_texts : (d : Data) → is_some (texts_of d) ≡ false → HasTexts d → ⊥
lacks_texts d none has = false≢true (sym none ∙ ap is_some (texts_there d has.0 has.1 has.2))

-- ---- all signatures have their texts, or one lacks them

one_more : (P : Data → Type 0) (d : Data) (ds : List Data) → SomeIs P ds → SomeIs P (d ∷ ds)
one_more P d ds is = (d ∷ is.0, is.1, is.2, ap (λ (ds : List Data). d ∷ ds) is.3, is.4)

pub texts_or_one : (ds : Items) → ((have_texts ds ≡ true) × AllByRecursion HasTexts (values_of ds))
    ⊎ ((have_texts ds ≡ false) × SomeIs (λ s. HasTexts s → ⊥) (values_of ds))
texts_or_one no_items = inl (refl, tt)
texts_or_one (item d ds) = from (is_some (texts_of d)) refl (texts_or_one ds)
  where
    from : (b : Bool) → is_some (texts_of d) ≡ b → ((have_texts ds ≡ true) × AllByRecursion HasTexts (values_of ds))
        ⊎ ((have_texts ds ≡ false) × SomeIs (λ s. HasTexts s → ⊥) (values_of ds))
        → (((b && have_texts ds) ≡ true) × AllByRecursion HasTexts (d ∷ values_of ds))
        ⊎ (((b && have_texts ds) ≡ false) × SomeIs (λ s. HasTexts s → ⊥) (d ∷ values_of ds))
    from true is (inl all) = inl (all.0, (has_texts d (texts_of d) refl is, all.1))
    from true is (inr one) = inr (one.0, one_more (λ s. HasTexts s → ⊥) d (values_of ds) one.1)
    from false is rest = inr (refl, ([], d, values_of ds, refl, lacks_texts d is))

all_but_one : (P : Data → Type 0) (front : List Data) (d : Data) (rest : List Data) → AllByRecursion P (front ++ d ∷ rest) → P d
all_but_one P [] d rest all = all.0
all_but_one P (f ∷ front) d rest all = all_but_one P front d rest all.1

never_both : (ds : List Data) → AllByRecursion HasTexts ds → SomeIs (λ s. HasTexts s → ⊥) ds → ⊥
never_both ds all one = one.4 (all_but_one HasTexts one.0 one.1 one.2 (subst (AllByRecursion HasTexts) one.3 all))

pub all_have : (ds : Items) → AllByRecursion HasTexts (values_of ds) → have_texts ds ≡ true
all_have ds all = elim (texts_or_one ds) [ inl have ↦ have.0 | inr one ↦ absurd (never_both (values_of ds) all one.1) ]

pub one_lacks : (ds : Items) → SomeIs (λ s. HasTexts s → ⊥) (values_of ds) → have_texts ds ≡ false
one_lacks ds one = elim (texts_or_one ds) [ inl have ↦ absurd (never_both (values_of ds) have.1 one) | inr lacks ↦ lacks.0 ]

-- ---- all signatures decode, or one does not

signature_by : (d : Data) (keyid sig : Text) (o : Option Text) → SignatureTexts d keyid sig → decoded sig ≡ o
    → signature_of d ≡ option_map (λ sig. record { keyid = keyid; sig = sig }) o
signature_by d keyid sig o texts is =
    ap (λ (t : Option Both). option_and_then (λ texts. option_map (λ sig. record { keyid = texts.0; sig = sig }) (decoded texts.1)) t)
    (texts_there d keyid sig texts)
    ∙ ap (λ (o : Option Text). option_map (λ sig. record { keyid = keyid; sig = sig }) o) is

pub decode_or_one : (ds : Items) → AllByRecursion HasTexts (values_of ds)
    → ((ss : List Signature) × (signatures_of ds ≡ Some ss) × AreSignatures (values_of ds) ss)
    ⊎ ((signatures_of ds ≡ None) × SomeIs DoesNotDecode (values_of ds))
decode_or_one no_items all = inl ([], refl, tt)
decode_or_one (item d ds) all = from (decoded all.0.1) refl (decode_or_one ds all.1)
  where
    from : (o : Option Text) → decoded all.0.1 ≡ o
        → ((ss : List Signature) × (signatures_of ds ≡ Some ss) × AreSignatures (values_of ds) ss)
        ⊎ ((signatures_of ds ≡ None) × SomeIs DoesNotDecode (values_of ds))
        → ((ss : List Signature) × (signatures_of (item d ds) ≡ Some ss) × AreSignatures (d ∷ values_of ds) ss)
        ⊎ ((signatures_of (item d ds) ≡ None) × SomeIs DoesNotDecode (d ∷ values_of ds))
    from None is rest = inr (
      ap (λ (o : Option Signature). option_and_then (λ s. option_map (λ ss. s ∷ ss) (signatures_of ds)) o)
          (signature_by d all.0.0 all.0.1 None all.0.2 is),
      ([], d, values_of ds, refl, (all.0.0, all.0.1, all.0.2, is)),
    )
    from (Some bytes) is (inl rest) = inl (
      record { keyid = all.0.0; sig = bytes } ∷ rest.0,
      ap (λ (o : Option Signature). option_and_then (λ s. option_map (λ ss. s ∷ ss) (signatures_of ds)) o)
          (signature_by d all.0.0 all.0.1 (Some bytes) all.0.2 is)
          ∙ ap (λ (o : Option (List Signature)). option_map (λ ss. record { keyid = all.0.0; sig = bytes } ∷ ss) o) rest.1,
      ((all.0.1, all.0.2, is), rest.2),
    )
    from (Some bytes) is (inr one) = inr (
      ap (λ (o : Option Signature). option_and_then (λ s. option_map (λ ss. s ∷ ss) (signatures_of ds)) o)
          (signature_by d all.0.0 all.0.1 (Some bytes) all.0.2 is)
          ∙ ap (λ (o : Option (List Signature)). option_map (λ ss. record { keyid = all.0.0; sig = bytes } ∷ ss) o) one.0,
      one_more DoesNotDecode d (values_of ds) one.1,
    )

pub signatures_there : (ds : Items) (ss : List Signature) → AreSignatures (values_of ds) ss → signatures_of ds ≡ Some ss
signatures_there no_items [] are = refl
signatures_there no_items (s ∷ ss) are = absurd are
signatures_there (item d ds) [] are = absurd are
signatures_there (item d ds) (s ∷ ss) are =
    ap (λ (o : Option Signature). option_and_then (λ s. option_map (λ ss. s ∷ ss) (signatures_of ds)) o)
    (signature_by d s.keyid are.0.0 (Some s.sig) are.0.1 are.0.2)
    ∙ ap (λ (o : Option (List Signature)). option_map (λ ss. s ∷ ss) o) (signatures_there ds ss are.1)

no_more : (o : Option Signature) (rest : Option (List Signature)) → rest ≡ None → option_and_then (λ s. option_map (λ ss. s ∷ ss) rest) o ≡ None
no_more None rest is = refl
no_more (Some s) rest is = ap (λ (o : Option (List Signature)). option_map (λ ss. s ∷ ss) o) is

pub one_undecoded : (ds : Items) (front : List Data) (d : Data) (rest : List Data) → values_of ds ≡ front ++ d ∷ rest → DoesNotDecode d
    → signatures_of ds ≡ None
one_undecoded no_items [] d rest is bad = cc is
one_undecoded no_items (f ∷ front) d rest is bad = cc is
one_undecoded (item e ds) [] d rest is bad =
    let same : e ≡ d = cc is in
    ap (λ (o : Option Signature). option_and_then (λ s. option_map (λ ss. s ∷ ss) (signatures_of ds)) o)
    (ap signature_of same ∙ signature_by d bad.0 bad.1 None bad.2 bad.3)
one_undecoded (item e ds) (f ∷ front) d rest is bad =
    let later : values_of ds ≡ front ++ d ∷ rest = cc is in
    no_more (signature_of e) (signatures_of ds) (one_undecoded ds front d rest later bad)
