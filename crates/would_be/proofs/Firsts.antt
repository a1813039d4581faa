-- The first of what is told is the fault.
use Rattle.std.proofs.Common.{◌≡◌, ◌&&◌, ◌++◌, ℕ, Bool, true, false, cond, List, [], ◌∷◌, Option, Some, None, refl, ap, sym, ◌∙◌, inl, inr}
use Rattle.std.specs.Prelude.{if◌then◌else◌, not}
use Rattle.std.specs.List.{find}
use Rattle.std.specs.Result.{result_err}
use Rattle.std.specs.Str.{bytes_eq}
use Rattle.std.proofs.lemmas.Bool.{and_parts, cases_Bool, true≢false}
use Rattle.git_object.specs.References.{policy_name}
use Rattle.git_object.specs.Repository.{Repository}
use Rattle.recovery.specs.Lanes.{first_of}
use Rattle.root_metadata.specs.Judged.{or_next}
use Rattle.rule_files.specs.declared.rules.RuleFile.{RuleFile}
use Rattle.rule_delegations.specs.Forests.{IsPolicy}
use Rattle.rule_delegations.specs.Reached.{Name}
use Rattle.tree_paths.specs.Repositories.{readings_of}
use Rattle.tree_paths.specs.States.{Ended, is_sound, walk_of}
use Rattle.policy_epochs.specs.declared.policies.Policy.{Policy}
use Rattle.policy_reading.specs.Policies.{policy_of}
use Rattle.entry_rules.specs.Changing.{is_unmet}
use Rattle.entry_rules.specs.Faults.{first_told, path_fault, ref_fault, rules_fault}
use Rattle.entry_rules.specs.Meeting.{file_name, meets}
use Rattle.entry_rules.specs.RealRules.{both_sound, epoch_by}
use Rattle.entry_rules.specs.declared.faults.Fault.{Fault}
use Rattle.entry_rules.specs.declared.faults.Fault.TheVariants.{NoPolicy, PathRule}
use Rattle.entry_rules.proofs.Comparing.{sound_fault}
use Rattle.entry_rules.proofs.Firsts.{told_is, unmet_tells}
use Rattle.entry_rules.proofs.Leasts.{first_unmet_is}
use Rattle.entry_rules.proofs.Meetings.{met_true}
use Rattle.would_be.specs.Laws.{HasRules}
use Rattle.would_be.specs.Would.{IsChange, IsOrdinary, IsWould, TellsAll, all_told, one, ordinary_fault, path_told, paths_told, would_fault, would_signers}
use Rattle.would_be.specs.declared.proposals.Proposed.{Proposed}
use Rattle.would_be.specs.declared.proposals.Stood.{Stood}
use Rattle.would_be.specs.declared.proposals.Would.{Would}

first_one : (o : Option Fault) (rest : List Fault) → first_of (one o ++ rest) ≡ or_next o (first_of rest)
first_one None rest = refl
first_one (Some fault) rest = refl

first_alone : (o : Option Fault) → first_of (one o) ≡ o
first_alone None = refl
first_alone (Some fault) = refl

-- a name that is not met is told of
told_some : (files : List RuleFile) (name : Name) (signers : List (List ℕ)) → IsPolicy files → (make : List ℕ → ℕ → ℕ → Fault) → meets files name signers ≡ false
    → (fault : Fault) × (first_told make files name signers ≡ Some fault)
told_some files name signers policy make unmet =
    let tells = unmet_tells files name signers policy (λ met. true≢false (sym ((met_true files name policy signers).0 met) ∙ unmet)) in
    (make tells.told tells.got tells.need, told_is files name signers policy make tells.told tells.got tells.need tells.is)

module _ (files : List RuleFile) (signers : List (List ℕ)) (policy : IsPolicy files) where
  paths_first : (paths : List (List ℕ)) → first_of (paths_told files signers paths) ≡ path_fault files signers (find (is_unmet files signers) paths)
  paths_first [] = refl
  paths_first (x ∷ xs) =
      let told = first_told (PathRule x) files (file_name x) signers in
      elim (cases_Bool (meets files (file_name x) signers)) [
        | inl met ↦
            ap (λ b. first_of (one (cond b None told) ++ paths_told files signers xs)) met ∙ paths_first xs
            ∙ sym (ap (λ b. path_fault files signers (cond (not b) (Some x) (find (is_unmet files signers) xs))) met)
        | inr unmet ↦
            let some = told_some files (file_name x) signers policy (PathRule x) unmet in
            ap (λ b. first_of (one (cond b None told) ++ paths_told files signers xs)) unmet
            ∙ ap (λ o. first_of (one o ++ paths_told files signers xs)) some.1 ∙ sym some.1
            ∙ sym (ap (λ b. path_fault files signers (cond (not b) (Some x) (find (is_unmet files signers) xs))) unmet)
      ]

  all_first : (name : List ℕ) (s t : Ended) (faults : List Fault) → TellsAll files name signers s t faults → first_of faults ≡ rules_fault files name signers s t
  all_first name s t faults all =
      ap first_of all.told ∙ first_one (ref_fault files name signers) (paths_told files signers all.paths)
      ∙ ap (or_next (ref_fault files name signers)) (paths_first all.paths ∙ ap (path_fault files signers) (first_unmet_is files signers s t all.paths all.changed))

module _ (r : Repository) (stood : Stood) (p : Proposed) (found : Would) where
  change_first : (policy : Policy) → IsPolicy policy.rules → IsChange r policy stood p found → first_of found.faults ≡ ordinary_fault r (Some policy) stood p
  change_first policy rules is =
      let s = walk_of (readings_of r) stood.from in
      let t = walk_of (readings_of r) p.target in
      elim (cases_Bool (both_sound (readings_of r) stood.from p.target)) [
        | inl sound ↦
            let parts = and_parts (is_sound s) (is_sound t) sound in
            all_first policy.rules (would_signers r policy stood p) rules p.name s t found.faults (is.all sound)
            ∙ sym (sound_fault policy.rules p.name (would_signers r policy stood p) s t parts.0 parts.1)
        | inr broken ↦ ap (λ (w : Would). first_of w.faults) (is.broken broken) ∙ first_alone (ordinary_fault r (Some policy) stood p)
      ]

  pub would_first : (anchor : Option (List (List ℕ))) (current : Option Policy) → HasRules current → IsWould anchor r current stood p found → first_of found.faults ≡ would_fault anchor r current stood p
  would_first anchor current rules is =
      let epoch = result_err (epoch_by anchor current (policy_of r p.target)) in
      elim (cases_Bool (bytes_eq p.name policy_name)) [
        | inl own ↦ ap (λ (w : Would). first_of w.faults) (is.epoch own) ∙ first_alone epoch ∙ sym (ap (λ b. cond b epoch (ordinary_fault r current stood p)) own)
        | inr other ↦ ordinary current rules (is.ordinary other) ∙ sym (ap (λ b. cond b epoch (ordinary_fault r current stood p)) other)
      ]
    where
      ordinary : (current : Option Policy) → HasRules current → IsOrdinary r current stood p found → first_of found.faults ≡ ordinary_fault r current stood p
      ordinary None rules is = ap (λ (w : Would). first_of w.faults) is
      ordinary (Some policy) rules is = change_first policy rules is
