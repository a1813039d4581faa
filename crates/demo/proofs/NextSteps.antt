-- What one change more makes of a history.
use Rattle.std.proofs.Common.{◌≡◌, ◌+◌, ◌%◌, ◌++◌, ℕ, suc, Bool, true, false, cond, [], ◌∷◌, Some, refl, sym, ap, subst, add-one}
use Rattle.std.specs.Option.{option_map}
use Rattle.git_object.specs.EntryParts.{entry_of}
use Rattle.git_object.specs.Objects.{pair_id}
use Rattle.git_object.specs.declared.modes.Mode.TheVariants.{File}
use Rattle.object_making.specs.Editing.{put_entry}
use Rattle.demo.specs.Journals.{with_use}
use Rattle.demo.specs.Histories.{change_commit, change_entry, main_after, objects_after, tip_after, uses_after}
use Rattle.demo.specs.Trees.{file_name, key_change, keys_after, keys_tree, number_id, src_after, tree_objects, writes_key}

at_next : (P : ℕ → Type 0) (j : ℕ) → P (suc j) → P (j + 1)
at_next P j h = subst P (sym (add-one j)) h

pub src_next : (j : ℕ) → src_after (j + 1) ≡ put_entry (entry_of File (file_name (j + 1)) (number_id (j + 1))) (src_after j)
unfolding src_after
src_next j = at_next (λ k. src_after k ≡ put_entry (entry_of File (file_name k) (number_id k)) (src_after j)) j refl

pub keys_stay : (j : ℕ) → writes_key (j + 1) ≡ false → keys_after (j + 1) ≡ keys_after j
unfolding keys_after key_change
keys_stay j none = at_next (λ k. writes_key k ≡ false → keys_after k ≡ keys_after j) j (λ h. ap (λ (b : Bool). option_map (λ i. pair_id (keys_tree i)) (cond b (Some (suc j)) (key_change j))) h) none

pub keys_next : (j : ℕ) → writes_key (j + 1) ≡ true → keys_after (j + 1) ≡ Some (pair_id (keys_tree (j + 1)))
unfolding keys_after key_change
keys_next j some =
    at_next (λ k. writes_key k ≡ true → keys_after k ≡ Some (pair_id (keys_tree k))) j (λ h. ap (λ (b : Bool). option_map (λ i. pair_id (keys_tree i)) (cond b (Some (suc j)) (key_change j))) h) some

pub main_next : (j : ℕ) → main_after (j + 1) ≡ Some (pair_id (change_commit (j + 1) (main_after j)))
unfolding main_after
main_next j = at_next (λ k. main_after k ≡ Some (pair_id (change_commit k (main_after j)))) j refl

pub uses_next : (j : ℕ) → uses_after (j + 1) ≡ with_use ((j + 1) % 3) (uses_after j)
unfolding uses_after
uses_next j = at_next (λ k. uses_after k ≡ with_use (k % 3) (uses_after j)) j refl

pub tip_next : (j : ℕ) → tip_after (j + 1) ≡ pair_id (change_entry (j + 1) (uses_after j) (tip_after j) (pair_id (change_commit (j + 1) (main_after j))))
unfolding tip_after
tip_next j = at_next (λ k. tip_after k ≡ pair_id (change_entry k (uses_after j) (tip_after j) (pair_id (change_commit k (main_after j))))) j refl

pub objects_next : (j : ℕ) → objects_after (j + 1)
    ≡ objects_after j ++ (tree_objects (j + 1) ++ change_commit (j + 1) (main_after j) ∷ change_entry (j + 1) (uses_after j) (tip_after j) (pair_id (change_commit (j + 1) (main_after j))) ∷ [])
unfolding objects_after
objects_next j =
    at_next (λ k. objects_after k
    ≡ objects_after j ++ (tree_objects k ++ change_commit k (main_after j) ∷ change_entry k (uses_after j) (tip_after j) (pair_id (change_commit k (main_after j))) ∷ [])) j refl
