-- The fault of an entry of a reference is the one that is told, and it has none exactly where it is lawful.
use Rattle.std.proofs.Common.{◌≡◌, ℕ, Bool, true, false, cond, List, Option, Some, None, refl, ap, sym, subst, ◌∙◌, inl, inr}
use Rattle.std.specs.Prelude.{◌⊎◌, ◌↔◌}
use Rattle.std.specs.List.{Contains}
use Rattle.std.specs.FinMap.{nat_cmp-IsAntisymmetric, slice_cmp-IsAntisymmetric}
use Rattle.std.specs.Ordering.{is_gt, ordering_reverse}
use Rattle.std.specs.declared.cmp.Ordering.{Ordering}
use Rattle.std.specs.declared.cmp.Ordering.TheVariants.{Less, Equal, Greater}
use Rattle.std.proofs.lemmas.Bool.{cases_Bool, false≢true, true≢false}
use Rattle.std.proofs.lemmas.Cmp.{nat_list_cmp_total}
use Rattle.octets.specs.BytesMap.{by_bytes}
use Rattle.git_object.specs.Repository.{Repository}
use Rattle.rsl_chain.specs.declared.entries.Entry.{Entry}
use Rattle.rsl_chain.specs.declared.entries.EntryBody.TheVariants.{Reference}
use Rattle.root_metadata.specs.Judged.{or_next}
use Rattle.rule_files.specs.declared.rules.RuleFile.{RuleFile}
use Rattle.rule_delegations.specs.Forests.{IsPolicy}
use Rattle.rule_delegations.specs.Reached.{Meets, Name}
use Rattle.policy_epochs.specs.declared.policies.Policy.{Policy}
use Rattle.tree_paths.specs.Broken.{IsUnbroken}
use Rattle.tree_paths.specs.Repositories.{readings_of}
use Rattle.tree_paths.specs.States.{Ended, Faulty, Gone, Sound, is_sound, walk_of}
use Rattle.tree_paths.proofs.Breaking.{compared_where, sound_where}
use Rattle.entry_rules.specs.declared.faults.Fault.{Fault}
use Rattle.entry_rules.specs.declared.faults.Fault.TheVariants.{Broken, NoPolicy, NotEpoch, PathRule, RefRule}
use Rattle.entry_rules.specs.Changing.{least_unmet}
use Rattle.entry_rules.specs.Faults.{body_fault, body_signers, change_fault, entry_fault, entry_signers, first_told, path_fault, ref_fault, rules_fault}
use Rattle.entry_rules.specs.Meeting.{file_name, git_name, meets}
use Rattle.entry_rules.specs.Readings.{IsBrokenTold, IsLawful, IsLeast, IsLeastUnmet, IsTold, IsUnmetChange, SignsApproval, SignsEntry}
use Rattle.entry_rules.proofs.Comparing.{broken_fault, sound_fault}
use Rattle.entry_rules.proofs.Firsts.{told_is, unmet_tells}
use Rattle.entry_rules.proofs.Leasts.{least_is}
use Rattle.entry_rules.proofs.Meetings.{met_true}
use Rattle.entry_rules.proofs.Signers.{joined_where}

-- ---- one least path

not_greater : (a b : List ℕ) → is_gt (by_bytes a b) ≡ false → is_gt (by_bytes b a) ≡ false → a ≡ b
not_greater a b first second = by_order (by_bytes a b) refl first where
  by_order : (o : Ordering) → by_bytes a b ≡ o → is_gt o ≡ false → a ≡ b
  by_order Less is e = absurd (true≢false (sym (ap is_gt (nat_list_cmp_total.antisymm b a ∙ ap ordering_reverse is)) ∙ second))
  by_order Equal is e = slice_cmp-IsAntisymmetric nat_cmp-IsAntisymmetric a b is
  by_order Greater is e = absurd (true≢false e)

module _ (files : List RuleFile) (signers : List (List ℕ)) (s t : Ended) (policy : IsPolicy files) where
  is_least : (path : List ℕ) → IsLeastUnmet files signers s t path → least_unmet files signers s t ≡ Some path
  is_least path is = by_found (least_unmet files signers s t) (least_is files signers s t policy) where
    by_found : (found : Option (List ℕ)) → IsLeast files signers s t found → found ≡ Some path
    by_found None none = absurd (none path is.is)
    by_found (Some other) some = ap Some (not_greater other path (some.least path is.is) (is.least other some.is))

  no_least : ((path : List ℕ) → IsUnmetChange files signers s t path → ⊥) → least_unmet files signers s t ≡ None
  no_least never = by_found (least_unmet files signers s t) (least_is files signers s t policy) where
    by_found : (found : Option (List ℕ)) → IsLeast files signers s t found → found ≡ None
    by_found None none = refl
    by_found (Some other) some = absurd (never other some.is)

module _ (files : List RuleFile) (name : Name) (signers : List (List ℕ)) (policy : IsPolicy files) where
  met : Meets files name signers → meets files name signers ≡ true
  met = (met_true files name policy signers).0

  not_met : (Meets files name signers → ⊥) → meets files name signers ≡ false
  not_met never = by_test (meets files name signers) refl where
    by_test : (b : Bool) → meets files name signers ≡ b → b ≡ false
    by_test true is = absurd (never ((met_true files name policy signers).1 is))
    by_test false is = refl

  met_or : Meets files name signers ⊎ (Meets files name signers → ⊥)
  met_or = elim (cases_Bool (meets files name signers)) [
    | inl is ↦ inl ((met_true files name policy signers).1 is)
    | inr isnt ↦ inr (λ m. false≢true (sym isnt ∙ met m))
  ]

-- ---- what is told

is_faulty : (e : Ended) → is_sound e ≡ false → (id : List ℕ) × (e ≡ Faulty id)
is_faulty Gone e = absurd (true≢false e)
is_faulty (Faulty id) e = (id, refl)
is_faulty (Sound tree ss c) e = absurd (true≢false e)

module _ (r : Repository) (files : List RuleFile) (policy : IsPolicy files) (signers : List (List ℕ)) (name from target : List ℕ) where
  abbrev before : Ended
  before = walk_of (readings_of r) from

  abbrev now : Ended
  now = walk_of (readings_of r) target

  fault_at : IsUnbroken (readings_of r) from → IsUnbroken (readings_of r) target → change_fault files name signers before now ≡ rules_fault files name signers before now
  fault_at a b = sound_fault files name signers before now ((sound_where (readings_of r) from).1 a) ((sound_where (readings_of r) target).1 b)

  ref_met : Meets files (git_name name) signers → ref_fault files name signers ≡ None
  ref_met m = ap (λ (b : Bool). cond b None (first_told RefRule files (git_name name) signers)) (met files (git_name name) signers policy m)

  lawful_none : IsLawful r files signers name from target → change_fault files name signers before now ≡ None
  lawful_none is =
      let none : least_unmet files signers before now ≡ None = no_least files signers before now policy (λ path unmet. unmet.unmet (is.paths path unmet.changed)) in
      fault_at is.from_whole is.to_whole
      ∙ ap (λ (o : Option Fault). or_next o (path_fault files signers (least_unmet files signers before now))) (ref_met is.reference)
      ∙ ap (path_fault files signers) none

  told_some : (fault : Fault) → IsTold r files signers name from target fault → change_fault files name signers before now ≡ Some fault
  told_some NoPolicy is = absurd is
  told_some (Broken id) is = broken_fault files name signers before now id ((compared_where (readings_of r) from target id).1 is)
  told_some (RefRule told got need) is =
      fault_at is.from_whole is.to_whole
      ∙ ap (λ (o : Option Fault). or_next o (path_fault files signers (least_unmet files signers before now)))
      (ap (λ (b : Bool). cond b None (first_told RefRule files (git_name name) signers)) (not_met files (git_name name) signers policy is.unmet)
      ∙ told_is files (git_name name) signers policy RefRule told got need is.rule)
  told_some (PathRule path told got need) is =
      fault_at is.from_whole is.to_whole
      ∙ ap (λ (o : Option Fault). or_next o (path_fault files signers (least_unmet files signers before now))) (ref_met is.reference)
      ∙ ap (path_fault files signers) (is_least files signers before now policy path is.least)
      ∙ told_is files (file_name path) signers policy (PathRule path) told got need is.rule
  told_some (NotEpoch why) is = absurd is

  -- something is told, or it is lawful
  abbrev Decided : Type 0
  Decided = IsLawful r files signers name from target ⊎ ((fault : Fault) × IsTold r files signers name from target fault)

  by_rules : IsUnbroken (readings_of r) from → IsUnbroken (readings_of r) target → Decided
  by_rules a b = elim (met_or files (git_name name) signers policy) [
    | inr unmet ↦
        let tells = unmet_tells files (git_name name) signers policy unmet in
        inr (RefRule tells.told tells.got tells.need, record { from_whole = a; to_whole = b; unmet = unmet; rule = tells.is })
    | inl reference ↦ by_path reference (least_unmet files signers before now) (least_is files signers before now policy)
  ] where
    by_path : Meets files (git_name name) signers → (least : Option (List ℕ)) → IsLeast files signers before now least → Decided
    by_path reference None none = inl (record {
      from_whole = a;
      to_whole = b;
      reference = reference;
      paths = λ path changed. elim (met_or files (file_name path) signers policy) [
        | inl meets ↦ meets
        | inr unmet ↦ absurd (none path (record { changed = changed; unmet = unmet }))
      ];
    })
    by_path reference (Some path) some =
        let tells = unmet_tells files (file_name path) signers policy some.is.unmet in
        inr (PathRule path tells.told tells.got tells.need, record { from_whole = a; to_whole = b; reference = reference; least = some; rule = tells.is })

  broken_told : (id : List ℕ) → IsBrokenTold r from target id → Decided
  broken_told id is = inr (Broken id, is)

  decided : Decided
  decided = elim (cases_Bool (is_sound before)) [
    | inr bad ↦ let at = is_faulty before bad in broken_told at.0 ((compared_where (readings_of r) from target at.0).0 (inl at.1))
    | inl sound ↦ elim (cases_Bool (is_sound now)) [
      | inr bad ↦ let at = is_faulty now bad in broken_told at.0 ((compared_where (readings_of r) from target at.0).0 (inr (sound, at.1)))
      | inl too ↦ by_rules ((sound_where (readings_of r) from).0 sound) ((sound_where (readings_of r) target).0 too)
    ]
  ]

  pub none_where : (change_fault files name signers before now ≡ None) ↔ IsLawful r files signers name from target
  none_where = (
    λ e. elim decided [
      | inl lawful ↦ lawful
      | inr some ↦ absurd (let clash : Some some.0 ≡ None = sym (told_some some.0 some.1) ∙ e in cc)
    ],
    lawful_none,
  )

  pub some_where : (fault : Fault) → (change_fault files name signers before now ≡ Some fault) ↔ IsTold r files signers name from target fault
  some_where fault = (
    λ e. elim decided [
      | inl lawful ↦ absurd (let clash : None ≡ Some fault = sym (lawful_none lawful) ∙ e in cc)
      | inr some ↦
          let both : Some some.0 ≡ Some fault = sym (told_some some.0 some.1) ∙ e in
          let same : some.0 ≡ fault = cc in
          subst (IsTold r files signers name from target) same some.1
    ],
    told_some fault,
  )

-- ---- the entry

module _ (r : Repository) (policy : Policy) (entry : Entry) (from : List ℕ) (attested : Option (List ℕ)) (name target : List ℕ) (body : entry.body ≡ Reference name target) where
  abbrev whose : List (List ℕ)
  whose = entry_signers r policy entry from attested

  signers_as : entry_signers r policy entry from attested ≡ body_signers r policy entry from attested (Reference name target)
  unfolding entry_signers
  signers_as = ap (body_signers r policy entry from attested) body

  fault_as : entry_fault r policy entry from attested ≡ body_fault r policy entry from attested (Reference name target)
  unfolding entry_fault
  fault_as = ap (body_fault r policy entry from attested) body

  fault_is : entry_fault r policy entry from attested ≡ change_fault policy.rules name whose (walk_of (readings_of r) from) (walk_of (readings_of r) target)
  fault_is = fault_as ∙ ap (λ (ids : List (List ℕ)). change_fault policy.rules name ids (walk_of (readings_of r) from) (walk_of (readings_of r) target)) (sym signers_as)

  pub signed_is : (id : List ℕ) → Contains whose id ↔ (SignsEntry policy.keys entry id ⊎ SignsApproval r policy.keys name from target attested id)
  signed_is id =
      let both = joined_where r policy.keys name from target attested id entry in
      (λ h. both.0 (subst (λ (ids : List (List ℕ)). Contains ids id) signers_as h), λ is. subst (λ (ids : List (List ℕ)). Contains ids id) (sym signers_as) (both.1 is))

  pub lawful_is : IsPolicy policy.rules → (entry_fault r policy entry from attested ≡ None) ↔ IsLawful r policy.rules whose name from target
  lawful_is valid =
      let both = none_where r policy.rules valid whose name from target in
      (λ e. both.0 (sym fault_is ∙ e), λ is. fault_is ∙ both.1 is)

  pub told_as : IsPolicy policy.rules → (fault : Fault) → (entry_fault r policy entry from attested ≡ Some fault) ↔ IsTold r policy.rules whose name from target fault
  told_as valid fault =
      let both = some_where r policy.rules valid whose name from target fault in
      (λ e. both.0 (sym fault_is ∙ e), λ is. fault_is ∙ both.1 is)
