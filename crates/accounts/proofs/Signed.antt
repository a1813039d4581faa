-- Whether an entry is signed, told by whom the rules found to have signed it.
use Rattle.std.proofs.Common.{◌≡◌, ◌&&◌, ◌||◌, ◌++◌, ℕ, Bool, true, false, cond, is_none, is_some, List, [], ◌∷◌, Option, Some, None, refl, ap, ◌∙◌, inl}
use Rattle.std.specs.List.{list_any}
use Rattle.std.specs.Str.{bytes_eq}
use Rattle.std.proofs.lemmas.Slice.Eq.{bytes_eq-Decides}
use Rattle.git_object.specs.References.{policy_name}
use Rattle.git_object.specs.Repository.{Repository}
use Rattle.rsl_chain.specs.Entries.{Taken, is_of}
use Rattle.rsl_chain.specs.declared.entries.Entry.{Entry}
use Rattle.rsl_chain.specs.declared.entries.EntryBody.{EntryBody}
use Rattle.rsl_chain.specs.declared.entries.EntryBody.TheVariants.{Reference, Annotation}
use Rattle.root_metadata.specs.Shapes.{only_if, set_of}
use Rattle.root_metadata.specs.declared.keys.Key.{Key}
use Rattle.approvals.proofs.Members.{in_set, passes_some}
use Rattle.tree_paths.specs.Repositories.{readings_of}
use Rattle.tree_paths.specs.States.{walk_of}
use Rattle.judging.specs.Logs.{attested_after, body_signers, from, opened, ordinary_signers, policy_after, signers_of}
use Rattle.judging.proofs.Takes.{policy_push}
use Rattle.policy_epochs.specs.declared.policies.Policy.{Policy}
use Rattle.entry_rules.specs.Faults as faults
use Rattle.entry_rules.specs.Faults.{entry_signers}
use Rattle.entry_rules.specs.RealRules.{real_rules}
use Rattle.entry_rules.specs.Signing.{approved, is_signed_by, joined, signer_among, tree_in}
use Rattle.accounts.specs.Rows.{counted_by, signer_in}
use Rattle.accounts.specs.Steps.{apart_signer, is_among, is_apart, is_signed_among}

either_true : (b : Bool) → (b || true) ≡ true
either_true true = refl
either_true false = refl

never : (b : Bool) → (b && false) ≡ false
never true = refl
never false = refl

-- a key that is first of a set's items is among those of the set
heads : (id : List ℕ) (more : List (List ℕ)) → list_any (λ key. bytes_eq key id) (set_of (id ∷ more)) ≡ true
heads id more = passes_some (λ key. bytes_eq key id) (set_of (id ∷ more)) id ((in_set (id ∷ more) id).1 (inl refl)) ((bytes_eq-Decides id id).1 refl)

-- the key is named: where its signature is good or not, and by the attestations, with nobody's approval where there are none
by_good : (good : Bool) (id : List ℕ) (attested : Option (List ℕ)) (approvers : List (List ℕ)) → (attested ≡ None → approvers ≡ [])
    → (is_among (Some id) (joined (only_if good id) approvers) && (is_none attested || is_some (only_if good id))) ≡ is_some (only_if good id)
by_good true id attested approvers none = ap (λ b. b && (is_none attested || true)) (heads id approvers) ∙ either_true (is_none attested)
by_good false id None approvers none = ap (λ xs. is_among (Some id) (set_of xs) && (true || false)) (none refl)
by_good false id (Some at) approvers none = never (is_among (Some id) (set_of approvers))

by_named : (keys : List Key) (entry : Entry) (named attested : Option (List ℕ)) (approvers : List (List ℕ)) → entry.signer ≡ named → (attested ≡ None → approvers ≡ [])
    → (is_among entry.signer (joined (signer_among keys entry) approvers) && (is_none attested || is_some (signer_among keys entry))) ≡ is_some (signer_among keys entry)
by_named keys entry None attested approvers is none = rw is refl
by_named keys entry (Some id) attested approvers is none = rw is (by_good (list_any (is_signed_by entry id) keys) id attested approvers none)

-- whom the rules find for an entry of a reference
signers_are : (r : Repository) (policy : Policy) (entry : Entry) (start : List ℕ) (attested : Option (List ℕ)) (name target : List ℕ) → entry.body ≡ Reference name target
    → entry_signers r policy entry start attested ≡ joined (signer_among policy.keys entry) (approved r policy.keys name start attested (tree_in (walk_of (readings_of r) target)))
unfolding entry_signers
signers_are r policy entry start attested name target is = ap (faults.body_signers r policy entry start attested) is

module _ (anchor : Option (List (List ℕ))) (log : List Taken) (t : Taken) where
  -- under a policy, or under none
  by_policy : (policy : Option Policy) (name target : List ℕ) → t.entry.body ≡ Reference name target → (start : List ℕ) (attested : Option (List ℕ))
      → is_signed_among policy t.entry attested (ordinary_signers (real_rules anchor) policy t start attested) ≡ is_some (signer_in policy t.entry)
  by_policy None name target is start attested = by_none t.entry.signer where
    by_none : (named : Option (List ℕ)) → (is_among named [] && (is_none attested || false)) ≡ false
    by_none None = refl
    by_none (Some id) = refl
  by_policy (Some policy) name target is start attested =
      let approvers : Option (List ℕ) → List (List ℕ) = λ at. approved t.repository policy.keys name start at (tree_in (walk_of (readings_of t.repository) target)) in
      ap (is_signed_among (Some policy) t.entry attested) (signers_are t.repository policy t.entry start attested name target is)
      ∙ by_named policy.keys t.entry t.entry.signer attested (approvers attested) refl (λ none. ap approvers none)

  -- under what is in force behind the entry, which no entry but one of the policy's reference changes
  pub signed_is : (now : Option Policy) → now ≡ policy_after (real_rules anchor) (log ++ t ∷ [])
      → cond (is_apart t.entry.body) (is_some (apart_signer (policy_after (real_rules anchor) log) t.entry))
      (is_signed_among now t.entry (attested_after log) (signers_of (real_rules anchor) log t))
      ≡ is_some (signer_in (policy_after (real_rules anchor) log) t.entry)
  signed_is now after = by_body t.entry.body refl where
    was : Option Policy
    was = policy_after (real_rules anchor) log

    by_body : (body : EntryBody) → t.entry.body ≡ body
        → cond (is_apart body) (is_some (cond (is_apart body) (signer_in was t.entry) None)) (is_signed_among now t.entry (attested_after log) (body_signers (real_rules anchor) log t body))
        ≡ is_some (signer_in was t.entry)
    by_body (Annotation ids skip message) is = refl
    by_body (Reference name target) is = by_name (bytes_eq name policy_name) refl where
      ordinary : List (List ℕ)
      ordinary = ordinary_signers (real_rules anchor) was t (from (real_rules anchor) log name) (attested_after log)

      by_name : (own : Bool) → bytes_eq name policy_name ≡ own
          → cond own (is_some (cond own (signer_in was t.entry) None)) (is_signed_among now t.entry (attested_after log) (cond own [] ordinary)) ≡ is_some (signer_in was t.entry)
      by_name true same = refl
      by_name false other =
          let kept : now ≡ was = after ∙ policy_push (real_rules anchor) log t
          ∙ ap (λ (b : Bool). cond b (opened (real_rules anchor) was ((real_rules anchor).epoch t.repository was t.entry)) was) (ap (λ (body : EntryBody). is_of body policy_name) is ∙ other) in
          ap (λ (p : Option Policy). is_signed_among p t.entry (attested_after log) ordinary) kept
          ∙ by_policy was name target is (from (real_rules anchor) log name) (attested_after log)

  -- by what was found before it was taken, and what was answered then
  pub signed_found : (now : Option Policy) (apart attested : Option (List ℕ)) (signers : List (List ℕ)) (signed : Bool)
      → now ≡ policy_after (real_rules anchor) (log ++ t ∷ []) → apart ≡ apart_signer (policy_after (real_rules anchor) log) t.entry
      → attested ≡ attested_after log → signers ≡ signers_of (real_rules anchor) log t
      → signed ≡ cond (is_apart t.entry.body) (is_some apart) (is_signed_among now t.entry attested signers)
      → signed ≡ is_some (signer_in (policy_after (real_rules anchor) log) t.entry)
  signed_found now apart attested signers signed after apart_is attested_is signers_are is =
      is ∙ ap (λ (a : Option (List ℕ)). cond (is_apart t.entry.body) (is_some a) (is_signed_among now t.entry attested signers)) apart_is
      ∙ ap (λ (at : Option (List ℕ)). cond (is_apart t.entry.body) (is_some (apart_signer (policy_after (real_rules anchor) log) t.entry)) (is_signed_among now t.entry at signers)) attested_is
      ∙ ap (λ (ks : List (List ℕ)). cond (is_apart t.entry.body) (is_some (apart_signer (policy_after (real_rules anchor) log) t.entry)) (is_signed_among now t.entry (attested_after log) ks)) signers_are
      ∙ signed_is now after

-- the persons of an annotation alone are told by its signer
pub counted_is : (policy : Option Policy) (entry : Entry) (signers : List (List ℕ)) → counted_by entry.body (apart_signer policy entry) signers ≡ counted_by entry.body (signer_in policy entry) signers
counted_is policy entry signers = by_body entry.body where
  by_body : (body : EntryBody) → counted_by body (cond (is_apart body) (signer_in policy entry) None) signers ≡ counted_by body (signer_in policy entry) signers
  by_body (Reference name target) = refl
  by_body (Annotation ids skip message) = refl
