-- The directories on the way to a file, as they were read of old trees.
use Rattle.std.specs.Prelude.{◌≡◌, ◌≤◌, ◌++◌, ◌∷◌, [], ℕ, List, length, Option, Ok}
use Rattle.std.specs.List.{AllByRecursion}
use Rattle.git_object.specs.Ids.{zeros}
use Rattle.git_object.specs.Names.{components}
use Rattle.git_object.specs.Repository.{Repository}
use Rattle.git_object.specs.Trees.{AreWellFormed, IsEntryName}
use Rattle.tree_paths.specs.Lookups.{entry_named}
use Rattle.tree_paths.specs.Readings.{Readings, Told}
use Rattle.approvals.specs.Files.{NewTrees, Putting, put_below, put_dir, put_file, put_last}
use Rattle.approvals.specs.declared.surveys.Level.{Level}

-- there is one for each name, with entries as Git has them
abbrev pub AreLevels : List (List ℕ) → List Level → Type 0
AreLevels [] levels = Unit {0}
AreLevels (name ∷ names) [] = ⊥
AreLevels (name ∷ names) (level ∷ levels) = AreWellFormed level.entries × AreLevels names levels

-- a file at these names, by the directories alone
abbrev pub put_levels : List ℕ → List (List ℕ) → List Level → Putting
put_levels blob [] levels = Ok (record { objects = []; root = blob })
put_levels blob (name ∷ names) [] = Ok (record { objects = []; root = blob })
put_levels blob (name ∷ []) (level ∷ levels) =
    put_last level.old name blob level.entries (entry_named name level.entries)
put_levels blob (name ∷ next ∷ names) (level ∷ levels) =
    put_dir level.old name level.entries
    (put_below (λ dir. put_levels blob (next ∷ names) levels) (entry_named name level.entries))

-- the directories for these names of an old tree were added: a file is put there as it is by them
pub record HasLevels (content : Option Repository) (names : List (List ℕ)) (old : Option (List ℕ))
    (before after : List Level) : Type 0 where
  pub levels : List Level
  pub added : after ≡ before ++ levels
  pub are : AreLevels names levels
  pub same : (readings : Readings) → Told content readings → (blob : List ℕ) → put_file readings.trees blob names old
      ≡ put_levels blob names levels

-- a file can be put at the path: a directory stands for each of its names, and no new tree is too large
pub record IsFit (path : List ℕ) (levels : List Level) : Type 0 where
  pub named : AllByRecursion IsEntryName (components path)
  pub few : length (components path) ≤ 18
  pub are : AreLevels (components path) levels
  pub trial : NewTrees
  pub fits : put_levels zeros (components path) levels ≡ Ok trial
