-- The files of a policy have the names of the files that it was read from.
use Rattle.std.proofs.Common.{◌≡◌, List, [], ◌∷◌, Option, Some, None, Result, Ok, Err, refl, sym, ap, subst, ◌∙◌, map}
use Rattle.std.specs.Prelude.{IfOk}
use Rattle.git_object.specs.declared.trees.TreeEntry.{TreeEntry}
use Rattle.rule_files.specs.declared.rules.RuleFile.{RuleFile}
use Rattle.policy_epochs.specs.declared.faults.PolicyFault.{PolicyFault}
use Rattle.policy_epochs.specs.declared.policies.Policy.{Policy}
use Rattle.policy_reading.specs.Metadata.{rule_files}
use Rattle.policy_reading.specs.Orders.{AreInOrder}
use Rattle.policy_reading.specs.declared.found_files.FileAt.{FileAt}
use Rattle.policy_reading.proofs.FilesInOrder.{files_in_order}
use Rattle.policy_reading.specs.Ordered.{names_of}
use Rattle.policy_reading.specs.Validity.{assembled, by_files, by_forest, by_root, files_fault, judged, policy_file, policy_made, root_fault, sealed_of, with_top}
use Rattle.policy_reading.specs.declared.signed_files.SignedFile.{SignedFile}
use Rattle.policy_reading.specs.declared.signed_files.SignedRoot.{SignedRoot}

names_made : (rules : List RuleFile) (files : List SignedFile) → names_of (map (policy_file rules) (map sealed_of files)) ≡ map (λ signed. signed.file.name) files
names_made rules [] = refl
names_made rules (signed ∷ files) = ap (λ more. signed.file.name ∷ more) (names_made rules files)

pub judged_names : (signed : SignedRoot) (files : List SignedFile) (policy : Policy) → judged signed files ≡ Ok policy → names_of policy.files ≡ map (λ one. one.file.name) files
unfolding judged
judged_names signed files policy is = by_signed (root_fault signed) is where
  by_fault : (rules : List RuleFile) (fault : Option PolicyFault) → by_files signed rules (map sealed_of files) fault ≡ Ok policy → names_of policy.files ≡ map (λ one. one.file.name) files
  by_fault rules None e = (let same : policy_made signed rules (map sealed_of files) ≡ policy = cc in ap (λ (p : Policy). names_of p.files) (sym same)) ∙ names_made rules files
  by_fault rules (Some fault) e = absurd (cc e)

  by_rules : (rules : Result (List RuleFile) PolicyFault) → by_forest signed (map sealed_of files) rules ≡ Ok policy → names_of policy.files ≡ map (λ one. one.file.name) files
  by_rules (Ok rules) e = by_fault rules (files_fault signed.root rules (map sealed_of files)) e
  by_rules (Err fault) e = absurd (cc e)

  by_signed : (fault : Option PolicyFault) → by_root signed files fault ≡ Ok policy → names_of policy.files ≡ map (λ one. one.file.name) files
  by_signed None e = by_rules (assembled (with_top files)) e
  by_signed (Some fault) e = absurd (cc e)

-- they stand in the order in which they were gone through
pub in_order : (signed : SignedRoot) (files : List SignedFile) (found : Result Policy PolicyFault) (entries : List TreeEntry) → found ≡ judged signed files
    → map (λ (one : SignedFile). one.file.name) files ≡ map (λ (at : FileAt). at.stem) (rule_files entries) → IfOk found (λ policy. AreInOrder (names_of policy.files))
in_order signed files (Ok policy) entries is named = subst AreInOrder (sym (judged_names signed files policy (sym is) ∙ named)) (files_in_order entries)
in_order signed files (Err fault) entries is named = tt
