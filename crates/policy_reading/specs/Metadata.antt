-- The files of a policy: those of the directory `metadata` of its target.
use Rattle.std.specs.Prelude.{◌&&◌, ◌++◌, ◌-◌, ℕ, Bool, true, false, not, List, [], ◌∷◌, Option, Some, None, codes}
use Rattle.std.specs.Prelude.{length, map, take, if◌then◌else◌}
use Rattle.std.specs.BTreeMap.{insert_entry}
use Rattle.std.specs.Bool.{nat_eq}
use Rattle.std.specs.List.{cons_option, ends_with, find}
use Rattle.std.specs.Option.{option_map}
use Rattle.std.specs.Str.{bytes_eq}
use Rattle.octets.specs.BytesMap.{by_bytes}
use Rattle.git_object.specs.declared.modes.Mode.{Mode}
use Rattle.git_object.specs.declared.modes.Mode.TheVariants.{Dir, Exec, File, Link, Module}
use Rattle.git_object.specs.declared.trees.TreeEntry.{TreeEntry}
use Rattle.tree_paths.specs.Readings.{Trees}
use Rattle.tree_paths.specs.Walks.{is_dir, listed}
use Rattle.policy_reading.specs.declared.found_files.FileAt.{FileAt}

-- ---- the directory

abbrev pub is_metadata : TreeEntry → Bool
is_metadata entry = is_dir entry.mode && bytes_eq entry.name (codes "metadata")

abbrev pub entries_below : Trees → Option TreeEntry → List TreeEntry
entries_below trees None = []
entries_below trees (Some directory) = listed (trees directory.id)

-- the entries of the directory `metadata` of a root's tree; none where it has no such directory
unfoldable pub metadata_entries : Trees → List ℕ → List TreeEntry
metadata_entries trees tree = entries_below trees (find is_metadata (listed (trees tree)))

-- ---- its files

abbrev pub is_file : Mode → Bool
is_file File = true
is_file Exec = true
is_file Dir = false
is_file Link = false
is_file Module = false

-- a policy's files are those whose names end in `.json`; all other entries are passed over
abbrev pub is_policy_file : TreeEntry → Bool
is_policy_file entry = is_file entry.mode && ends_with nat_eq entry.name (codes ".json")

-- the name without these five bytes
abbrev pub stem_of : List ℕ → List ℕ
stem_of name = take (length name - 5) name

-- the policy's file of this stem
abbrev pub is_called : List ℕ → TreeEntry → Bool
is_called stem entry = is_policy_file entry && bytes_eq (stem_of entry.name) stem

-- the stem of neither the root nor the top file
abbrev pub is_other : List ℕ → Bool
is_other stem = not (bytes_eq stem (codes "root")) && not (bytes_eq stem (codes "targets"))

-- a policy's file that is neither
abbrev pub is_below_top : TreeEntry → Bool
is_below_top entry = is_policy_file entry && is_other (stem_of entry.name)

-- ---- their order

-- such a file is put where its stem stands in the order of bytes
abbrev pub put_file : List (List ℕ × List ℕ) → TreeEntry → List (List ℕ × List ℕ)
put_file found entry = (if is_below_top entry then insert_entry by_bytes found (stem_of entry.name) entry.id else found)

abbrev pub put_files : List (List ℕ × List ℕ) → List TreeEntry → List (List ℕ × List ℕ)
put_files found [] = found
put_files found (entry ∷ entries) = put_files (put_file found entry) entries

abbrev pub file_at : List ℕ × List ℕ → FileAt
file_at e = record { stem = e.0; id = e.1 }

abbrev pub top_at : TreeEntry → FileAt
top_at entry = record { stem = codes "targets"; id = entry.id }

-- the top file alone, where it is there
abbrev pub top_file : List TreeEntry → List FileAt
top_file entries = cons_option (option_map top_at (find (is_called (codes "targets")) entries)) []

-- the rule files: the top file, where it is there, and then the others by their stems
unfoldable pub rule_files : List TreeEntry → List FileAt
rule_files entries = top_file entries ++ map file_at (put_files [] entries)
