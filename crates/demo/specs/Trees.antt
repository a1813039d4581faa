-- The files of a demonstration after each change, and their trees. Changes are numbered from 1.
use Rattle.std.specs.Prelude.{◌++◌, ◌∷◌, ◌%◌, ◌==◌, [], ℕ, suc, zero, Bool, List, Option, Some, None, codes, decimal}
use Rattle.std.specs.Prelude.{if◌then◌else◌}
use Rattle.std.specs.Option.{option_map}
use Rattle.git_object.specs.EntryParts.{entry_of}
use Rattle.git_object.specs.Objects.{Pair, pair_id}
use Rattle.git_object.specs.Trees.{entries_text}
use Rattle.git_object.specs.declared.kinds.Kind.TheVariants as kind
use Rattle.git_object.specs.declared.modes.Mode.TheVariants.{Dir, File}
use Rattle.git_object.specs.declared.trees.TreeEntry.{TreeEntry}
use Rattle.object_making.specs.Editing.{put_entry}

-- the object of a tree of these entries
abbrev pub tree_pair : List TreeEntry → Pair
tree_pair entries = record { kind = kind.Tree; body = entries_text entries }

-- a file that holds a number in decimal
abbrev pub number_file : ℕ → Pair
number_file j = record { kind = kind.Blob; body = decimal j }

abbrev pub number_id : ℕ → List ℕ
number_id j = pair_id (number_file j)

-- change j writes j into one of 64 files below src/
abbrev pub file_name : ℕ → List ℕ
file_name j = codes "f" ++ decimal (j % 64)

-- what stands below src/ after change j
unfoldable pub src_after : ℕ → List TreeEntry
src_after zero = []
src_after (suc j) = put_entry (entry_of File (file_name (suc j)) (number_id (suc j))) (src_after j)

-- whether change j writes j into keys/k too
abbrev pub writes_key : ℕ → Bool
writes_key j = j % 30 == 10

-- the last change up to j that wrote into keys/k
unfoldable pub key_change : ℕ → Option ℕ
key_change zero = None
key_change (suc j) = if writes_key (suc j) then Some (suc j) else key_change j

-- the tree of keys/ where change i wrote k
abbrev pub keys_tree : ℕ → Pair
keys_tree i = tree_pair (entry_of File (codes "k") (number_id i) ∷ [])

-- its id after change j
unfoldable pub keys_after : ℕ → Option (List ℕ)
keys_after j = option_map (λ i. pair_id (keys_tree i)) (key_change j)

-- a directory of a name, where there is one
abbrev pub directory : List ℕ → Option (List ℕ) → List TreeEntry
directory name None = []
directory name (Some id) = entry_of Dir name id ∷ []

-- the root, of the trees of keys/ and of src/
abbrev pub root_entries : Option (List ℕ) → List ℕ → List TreeEntry
root_entries keys src = directory (codes "keys") keys ++ entry_of Dir (codes "src") src ∷ []

abbrev pub root_tree : ℕ → Pair
root_tree j = tree_pair (root_entries (keys_after j) (pair_id (tree_pair (src_after j))))

-- the tree of keys/ that change j makes, if it makes one
abbrev pub new_keys_tree : ℕ → List Pair
new_keys_tree j = if writes_key j then keys_tree j ∷ [] else []

-- the blob and the trees that change j makes
unfoldable pub tree_objects : ℕ → List Pair
tree_objects j = number_file j ∷ (new_keys_tree j ++ tree_pair (src_after j) ∷ root_tree j ∷ [])
