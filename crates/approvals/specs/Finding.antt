-- What stands in the new trees, and where.
use Rattle.std.specs.Prelude.{◌≡◌, ◌≢◌, [], ℕ, List, Option, Some, None, Ok, if◌then◌else◌}
use Rattle.std.specs.List.{AllByRecursion}
use Rattle.git_object.specs.Ids.{IsId}
use Rattle.git_object.specs.Objects.{Pair}
use Rattle.git_object.specs.Repository.{HasObject, Repository}
use Rattle.git_object.specs.Trees.{AreEntries, IsEntryName}
use Rattle.git_object.specs.declared.modes.Mode.TheVariants.{File}
use Rattle.git_object.specs.declared.trees.TreeEntry.{TreeEntry}
use Rattle.object_making.specs.Keeping.{Keeps}
use Rattle.tree_paths.specs.Lookups.{entry_at}
use Rattle.tree_paths.specs.Readings.{AreReadings, Readings, Trees}
use Rattle.tree_paths.specs.States.{PathValue}
use Rattle.tree_paths.specs.Walks.{is_dir, listed}
use Rattle.approvals.specs.Files.{NewTrees, put_file}

-- the entries of each tree are as Git has them, each with an id
abbrev pub AreRead : Trees → Type 0
AreRead trees = (id : List ℕ) → AreEntries (listed (trees id))

-- in trees that keep the new objects, the file stands at its path from the new root
abbrev pub IsFilePut : Trees → List ℕ → List (List ℕ) → Option (List ℕ) → Type 0
IsFilePut trees blob names old =
    (made : NewTrees) (after : Trees) → AreRead trees → IsId blob → AllByRecursion IsEntryName names → names ≢ []
    → put_file trees blob names old ≡ Ok made → Keeps after made.objects
    → entry_at after names made.root ≡ Some (File, blob)

-- what stands at a path: nothing, or what is no directory
abbrev pub no_dir : Option PathValue → Option PathValue
no_dir None = None
no_dir (Some value) = (if is_dir value.0 then None else Some value)

abbrev pub path_at : Trees → List (List ℕ) → List ℕ → Option PathValue
path_at trees names root = no_dir (entry_at trees names root)

abbrev pub path_from : Trees → List (List ℕ) → Option (List ℕ) → Option PathValue
path_from trees names None = None
path_from trees names (Some root) = path_at trees names root

-- in trees that keep the new objects and have the old trees, every other path has from the new root what it has from
-- the old one
abbrev pub IsAllElseKept : Trees → List ℕ → List (List ℕ) → Option (List ℕ) → Type 0
IsAllElseKept trees blob names old =
    (made : NewTrees) (after : Trees) (others : List (List ℕ)) → AreRead trees → IsId blob
    → AllByRecursion IsEntryName names → names ≢ [] → put_file trees blob names old ≡ Ok made
    → Keeps after made.objects
    → ((id : List ℕ) (entries : List TreeEntry) → trees id ≡ Some entries → after id ≡ Some entries) → others ≢ names
    → path_at after others made.root ≡ path_from after others old

-- what the two above ask of trees: old ones are read, and are among those of a repository that has the old objects
pub record IsHeld (old new : Trees) : Type 0 where
  pub read : AreRead old
  pub remain : (id : List ℕ) (entries : List TreeEntry) → old id ≡ Some entries → new id ≡ Some entries

abbrev pub AreHeld : Repository → Repository → Type 0
AreHeld before after =
    (old new : Readings) → AreReadings before old → AreReadings after new
    → ((id : List ℕ) (pair : Pair) → HasObject before id pair → HasObject after id pair)
    → IsHeld old.trees new.trees
