-- Trees with a file put at a path, and nothing else changed.
use Rattle.std.specs.Prelude.{◌++◌, ◌∷◌, [], ℕ, List, length, nat_le, Option, Some, None, Result, Ok, Err}
use Rattle.std.specs.Prelude.{if◌then◌else◌}
use Rattle.git_object.specs.EntryParts.{entry_of}
use Rattle.git_object.specs.Objects.{Pair, pair_id}
use Rattle.git_object.specs.Repository.{largest_body}
use Rattle.git_object.specs.Trees.{entries_text}
use Rattle.git_object.specs.declared.kinds.Kind.TheVariants as kind
use Rattle.git_object.specs.declared.modes.Mode.TheVariants.{Dir, File}
use Rattle.git_object.specs.declared.trees.TreeEntry.{TreeEntry}
use Rattle.tree_paths.specs.Lookups.{entry_named}
use Rattle.tree_paths.specs.Readings.{Trees}
use Rattle.tree_paths.specs.Walks.{is_dir}
use Rattle.object_making.specs.Editing.{put_entry}

-- new trees, the one of the last names first, and the id of the root
pub record NewTrees : Type 0 where
  pub objects : List Pair
  pub root : List ℕ

-- the object of a tree of these entries
abbrev pub tree_pair : List TreeEntry → Pair
tree_pair entries = record { kind = kind.Tree; body = entries_text entries }

-- what comes of new trees, or the object that is in their way
abbrev pub Putting : Type 0
Putting = Result NewTrees (List ℕ)

-- the entries of an old tree, none where there is no tree yet; or the object that is no tree
abbrev pub entries_or : List ℕ → Option (List TreeEntry) → Result (List TreeEntry) (List ℕ)
entries_or id None = Err id
entries_or id (Some entries) = Ok entries

abbrev pub old_entries : Trees → Option (List ℕ) → Result (List TreeEntry) (List ℕ)
old_entries trees None = Ok []
old_entries trees (Some id) = entries_or id (trees id)

-- a new tree after those below it; an old one is in the way of one of more than 16 MiB
abbrev pub with_tree : Option (List ℕ) → List Pair → Pair → Putting
with_tree None below pair = Ok (record { objects = below ++ pair ∷ []; root = pair_id pair })
with_tree (Some old) below pair =
    (if nat_le (length pair.body) largest_body then Ok (record { objects = below ++ pair ∷ []; root = pair_id pair })
    else Err old)

-- a file in a tree: a directory is in its way
abbrev pub put_last : Option (List ℕ) → List ℕ → List ℕ → List TreeEntry → Option TreeEntry → Putting
put_last old name blob entries None = with_tree old [] (tree_pair (put_entry (entry_of File name blob) entries))
put_last old name blob entries (Some found) =
    (if is_dir found.mode then Err found.id else with_tree old []
    (tree_pair (put_entry (entry_of File name blob) entries)))

-- what is below a directory on the way, which may not be there yet: another thing is in its way
abbrev pub put_below : (Option (List ℕ) → Putting) → Option TreeEntry → Putting
put_below next None = next None
put_below next (Some found) = (if is_dir found.mode then next (Some found.id) else Err found.id)

abbrev pub put_dir : Option (List ℕ) → List ℕ → List TreeEntry → Putting → Putting
put_dir old name entries (Err id) = Err id
put_dir old name entries (Ok below) =
    with_tree old below.objects (tree_pair (put_entry (entry_of Dir name below.root) entries))

abbrev pub in_entries : Result (List TreeEntry) (List ℕ) → (List TreeEntry → Putting) → Putting
in_entries (Err id) next = Err id
in_entries (Ok entries) next = next entries

-- a file at these names of an old tree: new trees on the way, each the old one with one entry put in its place; or the
-- first object on the way that is no tree, is no directory, is a directory where the file shall stand, or is a tree
-- that
-- would grow past 16 MiB
abbrev pub put_file : Trees → List ℕ → List (List ℕ) → Option (List ℕ) → Putting
put_file trees blob [] old = Ok (record { objects = []; root = blob })
put_file trees blob (name ∷ []) old =
    in_entries (old_entries trees old) (λ entries. put_last old name blob entries (entry_named name entries))
put_file trees blob (name ∷ next ∷ names) old =
    in_entries (old_entries trees old)
    (λ entries. put_dir old name entries
    (put_below (put_file trees blob (next ∷ names)) (entry_named name entries)))
