-- The set of signers in the words of the standard.
use Rattle.std.proofs.Common.{◌≡◌, ◌⊎◌, ◌&&◌, ◌==◌, ℕ, Bool, true, List, [], ◌∷◌, length, map, refl, ap, sym, inl, inr, ◌∙◌, arith}
use Rattle.std.specs.Cmp.Lexicographic.{bytes_decides}
use Rattle.std.specs.List.{filter}
use Rattle.std.specs.Str.{bytes_eq}
use Rattle.std.proofs.lemmas.Bool.{and_parts, eq-eqb, eqb-true, or_cases, or_left, or_right}
use Rattle.hex.specs.Hex.{encode_lower}
use Rattle.dsse_envelope.specs.declared.envelope.Envelope.{Envelope}
use Rattle.dsse_envelope.specs.declared.envelope.Signature.{Signature}
use Rattle.lms_keys.proofs.Deciding.{decided}
use Rattle.lms_keys.specs.Deciding.{is_good}
use Rattle.root_metadata.specs.declared.keys.Key.{Key}
use Rattle.approvals.specs.Signers.{AreSigners, env_signers, is_by, signed_by, signed_text, speaks_for}
use Rattle.approvals.proofs.Members.{from_contains, in_passed, in_set, passes_some, some_passes, to_contains}

none : (xs : List ℕ) → length xs ≡ 0 → xs ≡ []
none [] h = refl
none (x ∷ xs) h = absurd (omega (arith, h))

speaks : (s : Signature) (id : List ℕ) → speaks_for s id ≡ true → (s.keyid ≡ []) ⊎ (s.keyid ≡ encode_lower id)
speaks s id h =
    elim (or_cases (length s.keyid == 0) (bytes_eq s.keyid (encode_lower id)) h) [
      | inl a ↦ inl (none s.keyid (eqb-true (length s.keyid) 0 a))
      | inr b ↦ inr ((bytes_decides s.keyid (encode_lower id)).0 b)
    ]

spoken : (s : Signature) (id : List ℕ) → (s.keyid ≡ []) ⊎ (s.keyid ≡ encode_lower id) → speaks_for s id ≡ true
spoken s id (inl a) = or_left (length s.keyid == 0) (bytes_eq s.keyid (encode_lower id)) (eq-eqb (length s.keyid) 0 (ap length a))
spoken s id (inr b) = or_right (length s.keyid == 0) (bytes_eq s.keyid (encode_lower id)) ((bytes_decides s.keyid (encode_lower id)).1 b)

module _ (envelope : Envelope) (keys : List Key) where
  abbrev text : List ℕ
  text = signed_text envelope

  abbrev test : Key → Bool
  test = signed_by text envelope.signatures

  abbrev own_id : Key → List ℕ
  own_id key = key.id

  pub signers_are : AreSigners envelope keys (env_signers envelope keys)
  signers_are id = (
    λ h.
        let passed = (in_passed own_id test keys id).0 ((in_set (map own_id (filter test keys)) id).0 (from_contains (env_signers envelope keys) id h)) in
        let key = passed.item in
        let found = some_passes (is_by text key) envelope.signatures passed.passes in
        let parts = and_parts (speaks_for found.0 key.id) (is_good key.public text found.0.sig) found.1.1 in
        record {
          key = key;
          listed = to_contains keys key passed.there;
          own = passed.value;
          signature = found.0;
          there = to_contains envelope.signatures found.0 found.1.0;
          speaks = elim (speaks found.0 key.id parts.0) [ inl a ↦ inl a | inr b ↦ inr (b ∙ ap encode_lower passed.value) ];
          good = (decided key.public text found.0.sig).0 parts.1;
        },
    λ is.
        let key = is.key in
        let spoken_for : speaks_for is.signature key.id ≡ true = spoken is.signature key.id (elim is.speaks [ inl a ↦ inl a | inr b ↦ inr (b ∙ ap encode_lower (sym is.own)) ]) in
        let good : is_good key.public text is.signature.sig ≡ true = (decided key.public text is.signature.sig).1 is.good in
        let by : is_by text key is.signature ≡ true = ap (λ x. x && is_good key.public text is.signature.sig) spoken_for ∙ good in
        let passes = passes_some (is_by text key) envelope.signatures is.signature (from_contains envelope.signatures is.signature is.there) by in
        to_contains (env_signers envelope keys) id
        ((in_set (map own_id (filter test keys)) id).1 ((in_passed own_id test keys id).1 (record { item = key; there = from_contains keys key is.listed; value = is.own; passes = passes }))),
  )
