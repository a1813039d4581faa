-- A policy that is valid in a repository is valid, and the same, in a larger one.
use Rattle.std.proofs.Common.{◌≡◌, ℕ, List, [], ◌∷◌, Option, Some, None, Result, Ok, Err, refl, sym, ap, ◌∙◌, inl, inr}
use Rattle.std.specs.Prelude.{◌⊎◌, codes}
use Rattle.std.specs.List.{find}
use Rattle.git_object.specs.Repository.{Repository}
use Rattle.git_object.specs.declared.trees.TreeEntry.{TreeEntry}
use Rattle.tree_paths.specs.Readings.{Trees}
use Rattle.tree_paths.specs.Repositories.{readings_of}
use Rattle.tree_paths.specs.States.{Ended, Faulty, Gone, Sound, is_sound, state_at, walk_of}
use Rattle.tree_paths.specs.Walks.{listed}
use Rattle.policy_epochs.specs.declared.faults.PolicyFault.{PolicyFault}
use Rattle.policy_epochs.specs.declared.faults.PolicyFault.TheVariants.{BadFile, NoRoot, Unreadable}
use Rattle.policy_epochs.specs.declared.policies.Policy.{Policy}
use Rattle.policy_reading.specs.Metadata.{entries_below, is_called, is_metadata, metadata_entries, rule_files}
use Rattle.tree_paths.specs.Blobs.{blob_at}
use Rattle.desk_core.proofs.Found.{blob_kept}
use Rattle.policy_reading.specs.declared.found_files.FileAt.{FileAt}
use Rattle.policy_reading.specs.Policies.{by_root_entry, by_root_file, by_rule_files, policy_at, policy_in, policy_of}
use Rattle.policy_reading.specs.Signed.{put_first, read_files, root_at, rule_file_at, signed_file, signed_root}
use Rattle.policy_reading.specs.declared.signed_files.SignedFile.{SignedFile}
use Rattle.policy_reading.specs.declared.signed_files.SignedRoot.{SignedRoot}
use Rattle.keeper_api.specs.Growing.{Keeps, Larger}
use Rattle.tree_paths.specs.Growing.{MoreTrees}
use Rattle.tree_paths.proofs.GrowingPeels.{walk_same}
use Rattle.tree_paths.proofs.GrowingReadings.{more_read}
use Rattle.desk_core.proofs.Kept.{KeepsOk, same_kept, then_kept}

-- ---- the directory
listed_same : (few more : Option (List TreeEntry)) → Keeps few more → (listed few ≡ []) ⊎ (listed more ≡ listed few)
listed_same None more keeps = inl refl
listed_same (Some es) more keeps = inr (ap listed (keeps es refl))

module _ (few more : Trees) (grown : MoreTrees few more) where
  below_same : (directory : Option TreeEntry) → (entries_below few directory ≡ []) ⊎ (entries_below more directory ≡ entries_below few directory)
  below_same None = inl refl
  below_same (Some directory) = listed_same (few directory.id) (more directory.id) (grown directory.id)

  entries_same : (tree : List ℕ) → (metadata_entries few tree ≡ []) ⊎ (metadata_entries more tree ≡ metadata_entries few tree)
  unfolding metadata_entries
  entries_same tree = elim (listed_same (few tree) (more tree) (grown tree)) [
    | inl none ↦ inl (ap (λ es. entries_below few (find is_metadata es)) none)
    | inr same ↦ elim (below_same (find is_metadata (listed (few tree)))) [
      | inl none ↦ inl none
      | inr below ↦ inr (ap (λ es. entries_below more (find is_metadata es)) same ∙ below)
    ]
  ]

-- ---- the files
put_kept : (stem : List ℕ) (few more : Option SignedFile) (rest rest_more : Result (List SignedFile) PolicyFault) → Keeps few more → KeepsOk rest rest_more → KeepsOk (put_first stem few rest) (put_first stem more rest_more)
put_kept stem None more rest rest_more keeps all files e = let bad : Err (BadFile stem) ≡ Ok files = e in cc
put_kept stem (Some file) more (Ok fs) rest_more keeps all files e = ap (λ m. put_first stem m rest_more) (keeps file refl) ∙ ap (put_first stem (Some file)) (all fs refl) ∙ e
put_kept stem (Some file) more (Err why) rest_more keeps all files e = let bad : Err why ≡ Ok files = e in cc

by_files_kept : (signed : SignedRoot) (few more : Result (List SignedFile) PolicyFault) → KeepsOk few more → KeepsOk (by_rule_files signed few) (by_rule_files signed more)
by_files_kept signed (Ok files) more keeps policy e = ap (by_rule_files signed) (keeps files refl) ∙ e
by_files_kept signed (Err why) more keeps policy e = let bad : Err why ≡ Ok policy = e in cc

module _ (small large : Repository) (grown : Larger small large) where
  root_kept : (id : List ℕ) → Keeps (root_at small id) (root_at large id)
  root_kept id = then_kept signed_root signed_root (blob_at small id) (blob_at large id) (blob_kept small large grown id) (λ text. same_kept (signed_root text))

  file_kept : (at : FileAt) → Keeps (rule_file_at small at) (rule_file_at large at)
  file_kept at = then_kept (signed_file at.stem) (signed_file at.stem) (blob_at small at.id) (blob_at large at.id) (blob_kept small large grown at.id) (λ text. same_kept (signed_file at.stem text))

  files_kept : (ats : List FileAt) → KeepsOk (read_files small ats) (read_files large ats)
  files_kept [] files e = e
  files_kept (at ∷ ats) files e =
      put_kept at.stem (rule_file_at small at) (rule_file_at large at) (read_files small ats) (read_files large ats) (file_kept at) (files_kept ats) files e

  by_root_kept : (ats : List FileAt) (few more : Option SignedRoot) → Keeps few more → KeepsOk (by_root_file small ats few) (by_root_file large ats more)
  by_root_kept ats None more keeps policy e = let bad : Err (BadFile (codes "root")) ≡ Ok policy = e in cc
  by_root_kept ats (Some signed) more keeps policy e =
      ap (by_root_file large ats) (keeps signed refl) ∙ by_files_kept signed (read_files small ats) (read_files large ats) (files_kept ats) policy e

  by_entry_kept : (ats : List FileAt) (entry : Option TreeEntry) → KeepsOk (by_root_entry small ats entry) (by_root_entry large ats entry)
  by_entry_kept ats None policy e = let bad : Err NoRoot ≡ Ok policy = e in cc
  by_entry_kept ats (Some entry) policy e = by_root_kept ats (root_at small entry.id) (root_at large entry.id) (root_kept entry.id) policy e

  in_kept : (entries : List TreeEntry) → KeepsOk (policy_in small entries) (policy_in large entries)
  unfolding policy_in
  in_kept entries policy e = by_entry_kept (rule_files entries) (find (is_called (codes "root")) entries) policy e

  no_entries : (policy : Policy) → policy_in small [] ≡ Ok policy → ⊥
  unfolding policy_in
  no_entries policy e = let bad : Err NoRoot ≡ Ok policy = e in cc

  whole_kept : (tree : List ℕ) → KeepsOk (policy_in small (metadata_entries (readings_of small).trees tree)) (policy_in large (metadata_entries (readings_of large).trees tree))
  whole_kept tree policy e = elim (entries_same (readings_of small).trees (readings_of large).trees (more_read small large grown).trees tree) [
    | inl none ↦ absurd (no_entries policy (sym (ap (policy_in small) none) ∙ e))
    | inr same ↦ ap (policy_in large) same ∙ in_kept (metadata_entries (readings_of small).trees tree) policy e
  ]

  pub policy_kept : (target : List ℕ) → KeepsOk (policy_of small target) (policy_of large target)
  unfolding policy_of
  policy_kept target policy e = by_walk (walk_of (readings_of small) target) refl e where
    by_walk : (w : Ended) → walk_of (readings_of small) target ≡ w → policy_at small (readings_of small) (state_at w) ≡ Ok policy → policy_at large (readings_of large) (state_at (walk_of (readings_of large) target)) ≡ Ok policy
    by_walk Gone is e = let bad : Err Unreadable ≡ Ok policy = e in cc
    by_walk (Faulty id) is e = let bad : Err Unreadable ≡ Ok policy = e in cc
    by_walk (Sound tree ss c) is e =
        let same = walk_same (readings_of small) (readings_of large) (more_read small large grown) target (ap is_sound is) in
        ap (λ w. policy_at large (readings_of large) (state_at w)) (same ∙ is) ∙ whole_kept tree policy e
