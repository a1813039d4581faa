-- What stands at a path of a tree.
use Rattle.std.specs.Prelude.{ℕ, ◌∷◌, [], List, Option, None, option_and_then, if◌then◌else◌}
use Rattle.std.specs.List.{find}
use Rattle.std.specs.Option.{option_map}
use Rattle.std.specs.Str.{bytes_eq}
use Rattle.git_object.specs.declared.trees.TreeEntry.{TreeEntry}
use Rattle.tree_paths.specs.Readings.{Trees}
use Rattle.tree_paths.specs.States.{PathValue}
use Rattle.tree_paths.specs.Walks.{is_dir, listed}

-- the entry of a name; a tree has one at most
abbrev pub entry_named : List ℕ → List TreeEntry → Option TreeEntry
entry_named name entries = find (λ entry. bytes_eq entry.name name) entries

abbrev pub entry_value : TreeEntry → PathValue
entry_value entry = (entry.mode, entry.id)

-- the mode and the id under a name in the tree at an id
abbrev pub value_named : Trees → List ℕ → List ℕ → Option PathValue
value_named trees tree name = option_map entry_value (entry_named name (listed (trees tree)))

-- what is found from a directory on
abbrev pub from_dir : (List ℕ → Option PathValue) → PathValue → Option PathValue
from_dir next value = (if is_dir value.0 then next value.1 else None)

-- directories of all names but the last lead from a tree to the entry of the last name
abbrev pub entry_at : Trees → List (List ℕ) → List ℕ → Option PathValue
entry_at trees [] tree = None
entry_at trees (name ∷ []) tree = value_named trees tree name
entry_at trees (name ∷ next ∷ names) tree = option_and_then (from_dir (entry_at trees (next ∷ names)))
    (value_named trees tree name)
