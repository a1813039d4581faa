-- The policy of a target is valid exactly where each of its points holds.
use Rattle.std.proofs.Common.{◌≡◌, ◌≢◌, ◌≤◌, ◌<◌, ℕ, Bool, true, false, cond, List, [], ◌∷◌, Option, Some, None, Result, Ok, Err, refl, sym, ap, ◌∙◌, inl, inr, map}
use Rattle.std.specs.Prelude.{◌↔◌, codes, nat_le, not}
use Rattle.std.specs.List.{AllByRecursion, find}
use Rattle.std.proofs.lemmas.Bool.{cases_Bool, cases_lt, false≢true, le-leb, leb-true}
use Rattle.std.proofs.lemmas.Slice.Eq.{bytes_eq-Decides}
use Rattle.git_object.specs.Repository.{Repository}
use Rattle.git_object.specs.Trees.{AreInOrder}
use Rattle.git_object.specs.declared.trees.TreeEntry.{TreeEntry}
use Rattle.tree_paths.specs.Repositories.{readings_of}
use Rattle.tree_paths.specs.States.{state_at, walk_of}
use Rattle.tree_paths.specs.Walks.{listed}
use Rattle.tree_paths.specs.declared.states.State.{State}
use Rattle.tree_paths.specs.declared.states.State.TheVariants as state
use Rattle.tree_paths.proofs.Existence.{are_readings}
use Rattle.tree_paths.proofs.ObjectsRead.{tree_formed}
use Rattle.root_metadata.specs.Judged.{or_next}
use Rattle.root_metadata.specs.Persons.{count_in}
use Rattle.root_metadata.specs.Shapes.{only_if}
use Rattle.root_metadata.specs.declared.keys.Key.{Key}
use Rattle.root_metadata.specs.declared.persons.Person.{Person}
use Rattle.root_metadata.specs.declared.roots.Root.{Root}
use Rattle.rule_files.specs.declared.rules.Rule.{Rule}
use Rattle.rule_files.specs.declared.rules.RuleFile.{RuleFile}
use Rattle.approvals.specs.Signers.{env_signers}
use Rattle.rule_delegations.specs.Assembling.{HasFault, IsFaultless, IsFirstFault, rule_names, times}
use Rattle.rule_delegations.specs.declared.assembling.AssembleFault.{AssembleFault}
use Rattle.rule_delegations.proofs.Faultless.{faultless_where}
use Rattle.policy_epochs.specs.declared.faults.PolicyFault.{PolicyFault}
use Rattle.policy_epochs.specs.declared.faults.PolicyFault.TheVariants.{BadFile, FileThreshold, Forest, NoRoot, Unreadable}
use Rattle.policy_epochs.specs.declared.policies.Policy.{Policy}
use Rattle.policy_reading.specs.Deciding.{first_fault, first_fault-is}
use Rattle.policy_reading.specs.Metadata.{entries_below, is_called, is_metadata, metadata_entries, rule_files}
use Rattle.policy_reading.specs.Policies.{by_root_entry, by_root_file, by_rule_files, policy_at, policy_in, policy_of}
use Rattle.policy_reading.specs.Signed.{read_files, root_at}
use Rattle.policy_reading.specs.Valid.{IsBelowSigned, IsFileSigned, IsRootSigned, IsValid}
use Rattle.policy_reading.specs.Validity.{assembled, assembled_by, by_files, by_forest, by_holder, by_root, by_rule, file_fault, files_fault, holder_of, is_top, judged, policy_made, root_fault, rule_named, sealed_of, signing_fault, with_top}
use Rattle.policy_reading.specs.declared.signed_files.Sealed.{Sealed}
use Rattle.policy_reading.specs.declared.signed_files.SignedFile.{SignedFile}
use Rattle.policy_reading.specs.declared.signed_files.SignedRoot.{SignedRoot}
use Rattle.policy_reading.proofs.Holders.{found_holder, holder_found}
use Rattle.policy_reading.proofs.ReadFiles.{called_where, read_where, root_where}

-- ---- as many signed as are asked for

no_lack : {F : Type 0} (need got : ℕ) (why : F) → only_if (not (nat_le need got)) why ≡ None → need ≤ got
no_lack {F} need got why e = by_test (nat_le need got) refl e where
  by_test : (b : Bool) → nat_le need got ≡ b → only_if (not b) why ≡ None → need ≤ got
  by_test true is f = leb-true need got is
  by_test false is f = absurd (let clash : Some why ≡ None = f in cc)

lack_none : {F : Type 0} (need got : ℕ) (why : F) → need ≤ got → only_if (not (nat_le need got)) why ≡ None
lack_none need got why enough = ap (λ (b : Bool). only_if (not b) why) (le-leb need got enough)

root_signed : (signed : SignedRoot) → (root_fault signed ≡ None) ↔ IsRootSigned signed
unfolding root_fault
root_signed signed =
    let got = count_in signed.root.root.persons (env_signers signed.envelope signed.root.keys) in
    (no_lack signed.root.root.threshold got _, lack_none signed.root.root.threshold got _)

few_signed : (sealed : Sealed) (keys : List Key) (persons : List Person) (threshold : ℕ) → (signing_fault sealed keys persons threshold ≡ None) ↔ (threshold ≤ count_in persons (env_signers sealed.envelope keys))
unfolding signing_fault
few_signed sealed keys persons threshold =
    let got = count_in persons (env_signers sealed.envelope keys) in
    (no_lack threshold got _, lack_none threshold got _)

-- ---- the forest

is_lawful : (files : List RuleFile) → first_fault files ≡ None → IsFaultless files
is_lawful files none = (faultless_where files).0 (by_found (first_fault files) (first_fault-is files) none) where
  by_found : (found : Option AssembleFault) → IsFirstFault files found → found ≡ None → (fault : AssembleFault) → HasFault files fault → ⊥
  by_found None is e = is.1
  by_found (Some fault) is e = absurd (let clash : Some fault ≡ None = e in cc)

lawful_is : (files : List RuleFile) → IsFaultless files → first_fault files ≡ None
lawful_is files is = by_found (first_fault files) (first_fault-is files) where
  by_found : (found : Option AssembleFault) → IsFirstFault files found → found ≡ None
  by_found None none = refl
  by_found (Some fault) has = absurd ((faultless_where files).1 is fault has)

assembled_where : (files rules : List RuleFile) → assembled files ≡ Ok rules → IsFaultless files × (files ≡ rules)
unfolding assembled
assembled_where files rules e = by_found (first_fault files) refl e where
  by_found : (found : Option AssembleFault) → first_fault files ≡ found → assembled_by files found ≡ Ok rules → IsFaultless files × (files ≡ rules)
  by_found None is f = let same : files ≡ rules = cc in (is_lawful files is, same)
  by_found (Some why) is f = absurd (let clash : Err (Forest why) ≡ Ok rules = f in cc)

where_assembled : (files : List RuleFile) → IsFaultless files → assembled files ≡ Ok files
unfolding assembled
where_assembled files is = ap (assembled_by files) (lawful_is files is)

-- ---- each file

module _ (root : Root) (rules : List RuleFile) (lawful : IsFaultless rules) (signed : SignedFile) where
  abbrev name : List ℕ
  name = signed.file.name

  few_rules : times signed.file.name (rule_names rules) < 2
  few_rules = elim (cases_lt (times signed.file.name (rule_names rules)) 2) [ inl few ↦ few | inr many ↦ absurd (lawful.once signed.file.name (inl many)) ]

  by_rule_is : (holder : RuleFile) → holder_of rules name ≡ Some holder → (rule : Option Rule) → rule_named name holder ≡ rule → by_rule (sealed_of signed) holder rule ≡ None → name ≢ codes "targets" → IsBelowSigned rules signed
  by_rule_is holder first None second e isnt = absurd (let clash : Some (FileThreshold name 0 1) ≡ None = e in cc)
  by_rule_is holder first (Some rule) second e isnt = record {
    isnt = isnt;
    holder = holder;
    rule = rule;
    holds = found_holder rules name holder rule first second;
    enough = (few_signed (sealed_of signed) holder.keys rule.persons rule.threshold).0 e;
  }

  by_holder_is : (holder : Option RuleFile) → holder_of rules name ≡ holder → by_holder (sealed_of signed) holder ≡ None → name ≢ codes "targets" → IsBelowSigned rules signed
  by_holder_is None first e isnt = absurd (let clash : Some (FileThreshold name 0 1) ≡ None = e in cc)
  by_holder_is (Some holder) first e isnt = by_rule_is holder first (rule_named name holder) refl e isnt

  file_is : file_fault root rules (sealed_of signed) ≡ None → IsFileSigned root rules signed
  unfolding file_fault
  file_is e = by_top (is_top name) refl e where
    by_top : (b : Bool) → is_top signed.file.name ≡ b
        → cond b (signing_fault (sealed_of signed) root.keys root.targets.persons root.targets.threshold) (by_holder (sealed_of signed) (holder_of rules signed.file.name)) ≡ None → IsFileSigned root rules signed
    by_top true is f = inl (record { is = (bytes_eq-Decides signed.file.name (codes "targets")).0 is; enough = (few_signed (sealed_of signed) root.keys root.targets.persons root.targets.threshold).0 f })
    by_top false is f = inr (by_holder_is (holder_of rules signed.file.name) refl f (λ same. false≢true (sym is ∙ (bytes_eq-Decides signed.file.name (codes "targets")).1 same)))

  is_file : IsFileSigned root rules signed → file_fault root rules (sealed_of signed) ≡ None
  unfolding file_fault
  is_file is = elim is [
    | inl top ↦
        ap (λ (b : Bool). cond b (signing_fault (sealed_of signed) root.keys root.targets.persons root.targets.threshold) (by_holder (sealed_of signed) (holder_of rules signed.file.name)))
        ((bytes_eq-Decides signed.file.name (codes "targets")).1 top.is)
        ∙ (few_signed (sealed_of signed) root.keys root.targets.persons root.targets.threshold).1 top.enough
    | inr below ↦
        let found = holder_found rules signed.file.name few_rules below.holder below.rule below.holds in
        ap (λ (b : Bool). cond b (signing_fault (sealed_of signed) root.keys root.targets.persons root.targets.threshold) (by_holder (sealed_of signed) (holder_of rules signed.file.name)))
        (not_top below.isnt)
        ∙ ap (by_holder (sealed_of signed)) found.0
        ∙ ap (by_rule (sealed_of signed) below.holder) found.1
        ∙ (few_signed (sealed_of signed) below.holder.keys below.rule.persons below.rule.threshold).1 below.enough
  ]
    where
      not_top : signed.file.name ≢ codes "targets" → is_top signed.file.name ≡ false
      not_top isnt = elim (cases_Bool (is_top signed.file.name)) [
        | inl same ↦ absurd (isnt ((bytes_eq-Decides signed.file.name (codes "targets")).0 same))
        | inr other ↦ other
      ]

none_next : {F : Type 0} (first next : Option F) → or_next first next ≡ None → (first ≡ None) × (next ≡ None)
none_next None next e = (refl, e)
none_next (Some why) next e = absurd (let clash : Some why ≡ None = e in cc)

module _ (root : Root) (rules : List RuleFile) (lawful : IsFaultless rules) where
  all_signed : (files : List SignedFile) → files_fault root rules (map sealed_of files) ≡ None → AllByRecursion (IsFileSigned root rules) files
  all_signed [] e = tt
  all_signed (f ∷ fs) e =
      let parts = none_next (file_fault root rules (sealed_of f)) (files_fault root rules (map sealed_of fs)) e in
      (file_is root rules lawful f parts.0, all_signed fs parts.1)

  signed_all : (files : List SignedFile) → AllByRecursion (IsFileSigned root rules) files → files_fault root rules (map sealed_of files) ≡ None
  signed_all [] all = refl
  signed_all (f ∷ fs) all =
      ap (λ (o : Option PolicyFault). or_next o (files_fault root rules (map sealed_of fs))) (is_file root rules lawful f all.0) ∙ signed_all fs all.1

-- ---- what was read

record IsJudged (signed : SignedRoot) (files : List SignedFile) (policy : Policy) : Type 0 where
  root_is : IsRootSigned signed
  faultless : IsFaultless (with_top files)
  files_are : AllByRecursion (IsFileSigned signed.root (with_top files)) files
  made : policy_made signed (with_top files) (map sealed_of files) ≡ policy

module _ (signed : SignedRoot) (files : List SignedFile) (policy : Policy) where
  judged_is : judged signed files ≡ Ok policy → IsJudged signed files policy
  unfolding judged
  judged_is e = by_signed (root_fault signed) refl e where
    by_fault : root_fault signed ≡ None → IsFaultless (with_top files) → (fault : Option PolicyFault) → files_fault signed.root (with_top files) (map sealed_of files) ≡ fault
        → by_files signed (with_top files) (map sealed_of files) fault ≡ Ok policy → IsJudged signed files policy
    by_fault root lawful None is f =
        let same : policy_made signed (with_top files) (map sealed_of files) ≡ policy = cc in
        record { root_is = (root_signed signed).0 root; faultless = lawful; files_are = all_signed signed.root (with_top files) lawful files is; made = same }
    by_fault root lawful (Some why) is f = absurd (let clash : Err why ≡ Ok policy = f in cc)

    by_rules : root_fault signed ≡ None → (rules : Result (List RuleFile) PolicyFault) → assembled (with_top files) ≡ rules → by_forest signed (map sealed_of files) rules ≡ Ok policy → IsJudged signed files policy
    by_rules root (Ok rules) is f =
        let forest = assembled_where (with_top files) rules is in
        by_fault root forest.0 (files_fault signed.root (with_top files) (map sealed_of files)) refl
        (ap (λ (rs : List RuleFile). by_files signed rs (map sealed_of files) (files_fault signed.root rs (map sealed_of files))) forest.1 ∙ f)
    by_rules root (Err why) is f = absurd (let clash : Err why ≡ Ok policy = f in cc)

    by_signed : (fault : Option PolicyFault) → root_fault signed ≡ fault → by_root signed files fault ≡ Ok policy → IsJudged signed files policy
    by_signed None is f = by_rules is (assembled (with_top files)) refl f
    by_signed (Some why) is f = absurd (let clash : Err why ≡ Ok policy = f in cc)

  is_judged : IsJudged signed files policy → judged signed files ≡ Ok policy
  unfolding judged
  is_judged is =
      ap (by_root signed files) ((root_signed signed).1 is.root_is)
      ∙ ap (by_forest signed (map sealed_of files)) (where_assembled (with_top files) is.faultless)
      ∙ ap (by_files signed (with_top files) (map sealed_of files)) (signed_all signed.root (with_top files) is.faultless files is.files_are)
      ∙ ap Ok is.made

-- ---- the target

formed : (r : Repository) (tree : List ℕ) → AreInOrder (metadata_entries (readings_of r).trees tree)
unfolding metadata_entries
formed r tree = by_directory (find is_metadata (listed ((readings_of r).trees tree))) where
  by_directory : (found : Option TreeEntry) → AreInOrder (entries_below (readings_of r).trees found)
  by_directory None = tt
  by_directory (Some directory) = (tree_formed r directory.id ((readings_of r).trees directory.id) ((are_readings r).trees directory.id)).ordered

module _ (r : Repository) (target : List ℕ) (policy : Policy) where
  abbrev entries_of : List ℕ → List TreeEntry
  entries_of tree = metadata_entries (readings_of r).trees tree

  whole_valid : (tree : List ℕ) (paths dirs : ℕ) → state_at (walk_of (readings_of r) target) ≡ state.Whole tree paths dirs → policy_in r (entries_of tree) ≡ Ok policy → IsValid r target policy
  unfolding policy_in
  whole_valid tree paths dirs whole e = by_entry (find (is_called (codes "root")) (entries_of tree)) refl e where
    by_files_read : (entry : TreeEntry) → find (is_called (codes "root")) (entries_of tree) ≡ Some entry → (signed : SignedRoot) → root_at r entry.id ≡ Some signed
        → (files : Result (List SignedFile) PolicyFault) → read_files r (rule_files (entries_of tree)) ≡ files → by_rule_files signed files ≡ Ok policy → IsValid r target policy
    by_files_read entry found signed root (Err why) read f = absurd (let clash : Err why ≡ Ok policy = f in cc)
    by_files_read entry found signed root (Ok files) read f =
        let is = judged_is signed files policy f in
        record {
          tree = tree;
          paths = paths;
          dirs = dirs;
          whole = whole;
          root_file = entry;
          has_root = (called_where (entries_of tree) (codes "root") (formed r tree) entry).0 found;
          root = signed;
          root_read = (root_where r entry.id signed).0 root;
          files = files;
          files_read = (read_where r (rule_files (entries_of tree)) files).0 read;
          root_signed = is.root_is;
          faultless = is.faultless;
          files_signed = is.files_are;
          made = is.made;
        }

    by_root_read : (entry : TreeEntry) → find (is_called (codes "root")) (entries_of tree) ≡ Some entry → (signed : Option SignedRoot) → root_at r entry.id ≡ signed
        → by_root_file r (rule_files (entries_of tree)) signed ≡ Ok policy → IsValid r target policy
    by_root_read entry found None root f = absurd (let clash : Err (BadFile (codes "root")) ≡ Ok policy = f in cc)
    by_root_read entry found (Some signed) root f = by_files_read entry found signed root (read_files r (rule_files (entries_of tree))) refl f

    by_entry : (entry : Option TreeEntry) → find (is_called (codes "root")) (entries_of tree) ≡ entry → by_root_entry r (rule_files (entries_of tree)) entry ≡ Ok policy → IsValid r target policy
    by_entry None found f = absurd (let clash : Err NoRoot ≡ Ok policy = f in cc)
    by_entry (Some entry) found f = by_root_read entry found (root_at r entry.id) refl f

  valid_whole : (is : IsValid r target policy) → policy_in r (entries_of is.tree) ≡ Ok policy
  unfolding policy_in
  valid_whole is =
      let entries = entries_of is.tree in
      ap (by_root_entry r (rule_files entries)) ((called_where entries (codes "root") (formed r is.tree) is.root_file).1 is.has_root)
      ∙ ap (by_root_file r (rule_files entries)) ((root_where r is.root_file.id is.root).1 is.root_read)
      ∙ ap (by_rule_files is.root) ((read_where r (rule_files entries) is.files).1 is.files_read)
      ∙ is_judged is.root is.files policy (record { root_is = is.root_signed; faultless = is.faultless; files_are = is.files_signed; made = is.made })

  ok_valid : policy_of r target ≡ Ok policy → IsValid r target policy
  unfolding policy_of
  ok_valid e = by_state (state_at (walk_of (readings_of r) target)) refl e where
    by_state : (s : State) → state_at (walk_of (readings_of r) target) ≡ s → policy_at r (readings_of r) s ≡ Ok policy → IsValid r target policy
    by_state state.Absent is f = absurd (let clash : Err Unreadable ≡ Ok policy = f in cc)
    by_state (state.Broken id) is f = absurd (let clash : Err Unreadable ≡ Ok policy = f in cc)
    by_state (state.Whole tree paths dirs) is f = whole_valid tree paths dirs is f

  valid_ok : IsValid r target policy → policy_of r target ≡ Ok policy
  unfolding policy_of
  valid_ok is = ap (policy_at r (readings_of r)) is.whole ∙ valid_whole is

  pub valid_where : (policy_of r target ≡ Ok policy) ↔ IsValid r target policy
  valid_where = (ok_valid, valid_ok)
