-- Who is among the signers of an entry.
use Rattle.std.proofs.Common.{◌≡◌, ◌&&◌, ◌++◌, ℕ, Bool, true, false, cond, List, [], ◌∷◌, Option, Some, None, refl, ap, sym, subst, ◌∙◌, inl, inr}
use Rattle.std.specs.Prelude.{◌⊎◌, ◌↔◌, Result, Ok, Err, option_and_then}
use Rattle.std.specs.Result.{result_ok}
use Rattle.std.specs.List.{Contains, list_any}
use Rattle.std.specs.Str.{bytes_eq}
use Rattle.std.proofs.lemmas.Bool.{and_parts}
use Rattle.std.proofs.lemmas.Slice.Eq.{bytes_eq-Decides}
use Rattle.git_object.specs.Ids.{zeros}
use Rattle.git_object.specs.Repository.{Repository}
use Rattle.lms_keys.specs.Deciding.{is_good}
use Rattle.lms_keys.proofs.Deciding.{decided}
use Rattle.rsl_chain.specs.declared.entries.Entry.{Entry}
use Rattle.dsse_envelope.specs.Envelopes.{reading}
use Rattle.dsse_envelope.specs.declared.envelope.Envelope.{Envelope}
use Rattle.root_metadata.specs.Shapes.{only_if, set_of}
use Rattle.root_metadata.specs.declared.keys.Key.{Key}
use Rattle.approvals.specs.Approvals.{approval_path, is_approval}
use Rattle.approvals.specs.Lookups.{approval_at, approval_of, file_in, signers_of}
use Rattle.approvals.specs.Signers.{env_signers}
use Rattle.approvals.proofs.Members.{In, from_contains, in_set, passes_some, some_passes, to_contains}
use Rattle.approvals.proofs.Signing.{signers_are}
use Rattle.tree_paths.specs.Repositories.{readings_of}
use Rattle.tree_paths.specs.States.{Ended, Faulty, Gone, Sound, state_at, walk_of}
use Rattle.entry_rules.specs.Readings.{HasTree, IsApproval, SignsApproval, SignsEntry}
use Rattle.entry_rules.specs.Signing.{approved, approved_to, is_signed_by, joined, listed, signer_among, signer_named, tree_in}

in_either : (xs ys : List (List ℕ)) (x : List ℕ) → In (xs ++ ys) x ↔ (In xs x ⊎ In ys x)
in_either [] ys x = (λ h. inr h, λ h. elim h [ inl none ↦ absurd none | inr there ↦ there ])
in_either (y ∷ xs) ys x =
    let rest = in_either xs ys x in (
      λ h. elim h [ inl here ↦ inl (inl here) | inr later ↦ elim (rest.0 later) [ inl a ↦ inl (inr a) | inr b ↦ inr b ] ],
      λ h. elim h [ inl a ↦ elim a [ inl here ↦ inl here | inr later ↦ inr (rest.1 (inl later)) ] | inr b ↦ inr (rest.1 (inr b)) ],
    )

-- ---- by the entry itself

module _ (keys : List Key) (entry : Entry) (id : List ℕ) where
  named_signs : (who : List ℕ) → entry.signer ≡ Some who → (b : Bool) → list_any (is_signed_by entry who) keys ≡ b → In (listed (cond b (Some who) None)) id → SignsEntry keys entry id
  named_signs who named true is h = elim h [
    | inl same ↦
        let found = some_passes (is_signed_by entry who) keys is in
        let key = found.0 in
        let parts = and_parts (bytes_eq key.id who) (is_good key.public entry.signed entry.signature) found.1.1 in
        record {
          named = named ∙ ap Some same;
          key = key;
          listed = to_contains keys key found.1.0;
          own = (bytes_eq-Decides key.id who).0 parts.0 ∙ same;
          good = (decided key.public entry.signed entry.signature).0 parts.1;
        }
    | inr none ↦ absurd none
  ]
  named_signs who named false is h = absurd h

  pub among_signs : In (listed (signer_among keys entry)) id → SignsEntry keys entry id
  among_signs h = by_signer entry.signer refl h where
    by_signer : (signer : Option (List ℕ)) → entry.signer ≡ signer → In (listed (option_and_then (signer_named keys entry) signer)) id → SignsEntry keys entry id
    by_signer None is h = absurd h
    by_signer (Some who) is h = named_signs who is (list_any (is_signed_by entry who) keys) refl h

  pub signs_among : SignsEntry keys entry id → In (listed (signer_among keys entry)) id
  signs_among is =
      let key = is.key in
      let own : bytes_eq key.id id ≡ true = (bytes_eq-Decides key.id id).1 is.own in
      let good : is_good key.public entry.signed entry.signature ≡ true = (decided key.public entry.signed entry.signature).1 is.good in
      let by : is_signed_by entry id key ≡ true = ap (λ (b : Bool). b && is_good key.public entry.signed entry.signature) own ∙ good in
      let any = passes_some (is_signed_by entry id) keys key (from_contains keys key is.listed) by in
      let among : signer_among keys entry ≡ Some id = ap (option_and_then (signer_named keys entry)) is.named ∙ ap (λ (b : Bool). cond b (Some id) None) any in
      subst (λ (who : Option (List ℕ)). In (listed who) id) (sym among) (inl refl)

-- ---- by an approval

tree_there : (e : Ended) (tree : List ℕ) → tree_in e ≡ Some tree → HasTree (state_at e) tree
tree_there Gone tree is = let same : zeros ≡ tree = cc in same
tree_there (Faulty id) tree is = absurd (let clash : None ≡ Some tree = is in cc)
tree_there (Sound root ss c) tree is = let same : root ≡ tree = cc in same

there_tree : (e : Ended) (tree : List ℕ) → HasTree (state_at e) tree → tree_in e ≡ Some tree
there_tree Gone tree is = ap Some is
there_tree (Faulty id) tree is = absurd is
there_tree (Sound root ss c) tree is = ap Some is

module _ (r : Repository) (attestations name from tree : List ℕ) (envelope : Envelope) where
  by_reading : (bytes : List ℕ) (read : Result Envelope _) → reading bytes ≡ read → option_and_then (λ e. only_if (is_approval name from tree e) e) (result_ok read) ≡ Some envelope
      → (reading bytes ≡ Ok envelope) × (is_approval name from tree envelope ≡ true)
  by_reading bytes (Err fault) is e = absurd (let clash : None ≡ Some envelope = e in cc)
  by_reading bytes (Ok found) is e = by_test (is_approval name from tree found) refl e where
    by_test : (b : Bool) → is_approval name from tree found ≡ b → cond b (Some found) None ≡ Some envelope → (reading bytes ≡ Ok envelope) × (is_approval name from tree envelope ≡ true)
    by_test true says f = let same : found ≡ envelope = cc in (is ∙ ap Ok same, ap (is_approval name from tree) (sym same) ∙ says)
    by_test false says f = absurd (let clash : None ≡ Some envelope = f in cc)

  of_bytes : (bytes : List ℕ) → approval_of name from tree bytes ≡ Some envelope → (reading bytes ≡ Ok envelope) × (is_approval name from tree envelope ≡ true)
  unfolding approval_of
  of_bytes bytes e = by_reading bytes (reading bytes) refl e

  bytes_of : (bytes : List ℕ) → reading bytes ≡ Ok envelope → is_approval name from tree envelope ≡ true → approval_of name from tree bytes ≡ Some envelope
  unfolding approval_of
  bytes_of bytes read says =
      ap (λ (x : Result Envelope _). option_and_then (λ e. only_if (is_approval name from tree e) e) (result_ok x)) read ∙ ap (λ (b : Bool). cond b (Some envelope) None) says

  found_is : approval_at r attestations name from tree ≡ Some envelope → IsApproval r attestations name from tree envelope
  unfolding approval_at
  found_is e = by_file (file_in r attestations (approval_path name from tree)) refl e where
    by_file : (file : Option (List ℕ)) → file_in r attestations (approval_path name from tree) ≡ file → option_and_then (approval_of name from tree) file ≡ Some envelope → IsApproval r attestations name from tree envelope
    by_file None is f = absurd (let clash : None ≡ Some envelope = f in cc)
    by_file (Some bytes) is f = let parts = of_bytes bytes f in record { bytes = bytes; file = is; read = parts.0; says = parts.1 }

  is_found : IsApproval r attestations name from tree envelope → approval_at r attestations name from tree ≡ Some envelope
  unfolding approval_at
  is_found is = ap (option_and_then (approval_of name from tree)) is.file ∙ bytes_of is.bytes is.read is.says

module _ (r : Repository) (keys : List Key) (name from target : List ℕ) (attested : Option (List ℕ)) (id : List ℕ) where
  by_tree : (attestations : List ℕ) → attested ≡ Some attestations → (tree : Option (List ℕ)) → tree_in (walk_of (readings_of r) target) ≡ tree
      → In (approved_to r keys name from attestations tree) id → SignsApproval r keys name from target attested id
  by_tree attestations told None to h = absurd h
  by_tree attestations told (Some tree) to h = by_approval (approval_at r attestations name from tree) refl h where
    by_approval : (found : Option Envelope) → approval_at r attestations name from tree ≡ found → In (signers_of keys found) id → SignsApproval r keys name from target attested id
    by_approval None is h = absurd h
    by_approval (Some envelope) is h = record {
      attestations = attestations;
      told = told;
      tree = tree;
      to = tree_there (walk_of (readings_of r) target) tree to;
      envelope = envelope;
      found = found_is r attestations name from tree envelope is;
      signed = (signers_are envelope keys id).0 (to_contains (env_signers envelope keys) id h);
    }

  approved_signs : In (approved r keys name from attested (tree_in (walk_of (readings_of r) target))) id → SignsApproval r keys name from target attested id
  approved_signs h = by_attested attested refl h where
    by_attested : (a : Option (List ℕ)) → attested ≡ a → In (approved r keys name from a (tree_in (walk_of (readings_of r) target))) id → SignsApproval r keys name from target attested id
    by_attested None is h = absurd h
    by_attested (Some attestations) is h = by_tree attestations is (tree_in (walk_of (readings_of r) target)) refl h

  signs_approved : SignsApproval r keys name from target attested id → In (approved r keys name from attested (tree_in (walk_of (readings_of r) target))) id
  signs_approved is =
      let to : tree_in (walk_of (readings_of r) target) ≡ Some is.tree = there_tree (walk_of (readings_of r) target) is.tree is.to in
      let found = is_found r is.attestations name from is.tree is.envelope is.found in
      let all : approved r keys name from attested (tree_in (walk_of (readings_of r) target)) ≡ env_signers is.envelope keys =
      ap (λ (a : Option (List ℕ)). approved r keys name from a (tree_in (walk_of (readings_of r) target))) is.told
      ∙ ap (approved_to r keys name from is.attestations) to
      ∙ ap (signers_of keys) found in
      subst (λ (ids : List (List ℕ)). In ids id) (sym all) (from_contains (env_signers is.envelope keys) id ((signers_are is.envelope keys id).1 is.signed))

  -- of both
  pub joined_where : (entry : Entry) → Contains (joined (signer_among keys entry) (approved r keys name from attested (tree_in (walk_of (readings_of r) target)))) id
      ↔ (SignsEntry keys entry id ⊎ SignsApproval r keys name from target attested id)
  joined_where entry =
      let own = listed (signer_among keys entry) in
      let others = approved r keys name from attested (tree_in (walk_of (readings_of r) target)) in
      let set = in_set (own ++ others) id in
      let either = in_either own others id in (
        λ h. elim (either.0 (set.0 (from_contains (set_of (own ++ others)) id h))) [
          | inl a ↦ inl (among_signs keys entry id a)
          | inr b ↦ inr (approved_signs b)
        ],
        λ is. to_contains (set_of (own ++ others)) id (set.1 (either.1 (elim is [
          | inl a ↦ inl (signs_among keys entry id a)
          | inr b ↦ inr (signs_approved b)
        ]))),
      )
