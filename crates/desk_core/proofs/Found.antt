-- What is found at a path of a target is found in a larger repository.
use Rattle.std.proofs.Common.{◌≡◌, ℕ, List, [], ◌∷◌, Option, Some, None, refl, ap, ◌∙◌}
use Rattle.std.specs.Option.{option_map}
use Rattle.git_object.specs.Names.{components}
use Rattle.git_object.specs.Repository.{Repository, object_at}
use Rattle.tree_paths.specs.Blobs.{blob_at, small_blob}
use Rattle.tree_paths.specs.Lookups.{entry_at, entry_named, entry_value, from_dir, value_named}
use Rattle.tree_paths.specs.Readings.{Readings, Trees}
use Rattle.tree_paths.specs.Repositories.{readings_of}
use Rattle.tree_paths.specs.States.{PathValue, root_of}
use Rattle.tree_paths.specs.Walks.{is_dir}
use Rattle.tree_paths.specs.declared.heads.Peeled.{Peeled}
use Rattle.tree_paths.specs.declared.heads.Peeled.TheVariants.{At, Bad, Nothing}
use Rattle.approvals.specs.Approvals.{approval_path}
use Rattle.approvals.specs.Lookups.{approval_at, approval_of, entry_in, file_bytes, file_in, is_file, tree_of}
use Rattle.keeper_api.specs.Growing.{Keeps, Larger}
use Rattle.tree_paths.specs.Growing.{MoreReadings, MoreTrees}
use Rattle.tree_paths.proofs.GrowingPeels.{root_same}
use Rattle.tree_paths.proofs.GrowingReadings.{more_read}
use Rattle.desk_core.proofs.Kept.{if_kept, listed_kept, same_kept, then_kept}

module _ (few more : Trees) (grown : MoreTrees few more) where
  value_kept : (tree name : List ℕ) → Keeps (value_named few tree name) (value_named more tree name)
  value_kept tree name = listed_kept (λ es. option_map entry_value (entry_named name es)) (few tree) (more tree) refl (grown tree)

  dir_kept : (p q : List ℕ → Option PathValue) → ((id : List ℕ) → Keeps (p id) (q id)) → (w : PathValue) → Keeps (from_dir p w) (from_dir q w)
  dir_kept p q each w = if_kept (is_dir w.0) (p w.1) (q w.1) (each w.1)

  pub entry_kept : (names : List (List ℕ)) (tree : List ℕ) → Keeps (entry_at few names tree) (entry_at more names tree)
  entry_kept [] tree v e = e
  entry_kept (name ∷ []) tree v e = value_kept tree name v e
  entry_kept (name ∷ next ∷ names) tree v e =
      then_kept (from_dir (entry_at few (next ∷ names))) (from_dir (entry_at more (next ∷ names))) (value_named few tree name) (value_named more tree name) (value_kept tree name)
      (dir_kept (entry_at few (next ∷ names)) (entry_at more (next ∷ names)) (entry_kept (next ∷ names))) v e

root_kept : (few more : Readings) → MoreReadings few more → (target : List ℕ) → Keeps (tree_of (root_of few.heads target)) (tree_of (root_of more.heads target))
root_kept few more grown target tree e = by_root (root_of few.heads target) refl e where
  by_root : (p : Peeled) → root_of few.heads target ≡ p → tree_of p ≡ Some tree → tree_of (root_of more.heads target) ≡ Some tree
  by_root Nothing is e = let bad : None ≡ Some tree = e in cc
  by_root (Bad id) is e = let bad : None ≡ Some tree = e in cc
  by_root (At id root) is e = ap tree_of (root_same few.heads more.heads grown.heads target (At id root) refl is) ∙ e

module _ (small large : Repository) (grown : Larger small large) where
  pub blob_kept : (id : List ℕ) → Keeps (blob_at small id) (blob_at large id)
  blob_kept id = then_kept small_blob small_blob (object_at small id) (object_at large id) (grown id) (λ pair. same_kept (small_blob pair))

  bytes_kept : (value : PathValue) → Keeps (file_bytes small value) (file_bytes large value)
  bytes_kept value = if_kept (is_file value.0) (blob_at small value.1) (blob_at large value.1) (blob_kept value.1)

  at_path_kept : (target path : List ℕ) → Keeps (entry_in (readings_of small) target path) (entry_in (readings_of large) target path)
  at_path_kept target path =
      let read = more_read small large grown in
      then_kept (entry_at (readings_of small).trees (components path)) (entry_at (readings_of large).trees (components path))
      (tree_of (root_of (readings_of small).heads target)) (tree_of (root_of (readings_of large).heads target)) (root_kept (readings_of small) (readings_of large) read target)
      (entry_kept (readings_of small).trees (readings_of large).trees read.trees (components path))

  pub file_kept : (target path : List ℕ) → Keeps (file_in small target path) (file_in large target path)
  unfolding file_in
  file_kept target path =
      then_kept (file_bytes small) (file_bytes large) (entry_in (readings_of small) target path) (entry_in (readings_of large) target path) (at_path_kept target path) bytes_kept

  pub approval_kept : (attestations name from tree : List ℕ) → Keeps (approval_at small attestations name from tree) (approval_at large attestations name from tree)
  unfolding approval_at
  approval_kept attestations name from tree =
      then_kept (approval_of name from tree) (approval_of name from tree) (file_in small attestations (approval_path name from tree)) (file_in large attestations (approval_path name from tree))
      (file_kept attestations (approval_path name from tree)) (λ bytes. same_kept (approval_of name from tree bytes))
