-- What the paths of trees are.
use Rattle.std.specs.Prelude.{◌≡◌, ◌≢◌, ◌≤◌, ◌++◌, ◌∷◌, [], ℕ, List, length, false}
use Rattle.std.specs.List.{AllByRecursion}
use Rattle.text_reader.specs.Line.{Begins}
use Rattle.git_object.specs.Trees.{IsEntryName}
use Rattle.tree_paths.specs.Changes.{AreRising}
use Rattle.tree_paths.specs.Leading.{join}
use Rattle.tree_paths.specs.Walks.{is_dir}
use Rattle.object_making.specs.declared.listed.Listed.{Listed}

abbrev pub paths : List Listed → List (List ℕ)
paths [] = []
paths (listed ∷ listing) = listed.path ∷ paths listing

-- names joined by slashes, each as an entry may have it, so many at most and one at least
pub record IsPath (most : ℕ) (path : List ℕ) : Type 0 where
  pub names : List (List ℕ)
  pub joined : path ≡ join names
  pub named : AllByRecursion IsEntryName names
  pub some : names ≢ []
  pub few : length names ≤ most

-- a path that is no directory's
pub record IsListed (listed : Listed) : Type 0 where
  pub path : IsPath 32 listed.path
  pub plain : is_dir listed.mode ≡ false

-- no path stands in a directory that has the path of an earlier one
abbrev pub AreApart : List (List ℕ) → Type 0
AreApart [] = Unit {0}
AreApart (path ∷ later) = AllByRecursion (λ other. Begins (path ++ 47 ∷ []) other → ⊥) later × AreApart later

-- the paths rise by bytes, and each may stand in a tree beside the others
pub record IsListing (listing : List Listed) : Type 0 where
  pub each : AllByRecursion IsListed listing
  pub rising : AreRising (paths listing)
  pub apart : AreApart (paths listing)
