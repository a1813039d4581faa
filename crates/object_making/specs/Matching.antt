-- Which listings are no tree's, and what of other trees of a listing is left when a part of it is made.
use Rattle.std.specs.Prelude.{◌≡◌, ◌++◌, ◌∷◌, [], ℕ, List, false}
use Rattle.std.specs.List.{AllByRecursion}
use Rattle.text_reader.specs.Line.{has_byte}
use Rattle.git_object.specs.Trees.{AreWellFormed, Precedes}
use Rattle.git_object.specs.declared.trees.TreeEntry.{TreeEntry}
use Rattle.tree_paths.specs.Readings.{Trees}
use Rattle.tree_paths.specs.States.{path_values}
use Rattle.tree_paths.specs.Walks.{Step, below, listed, steps}
use Rattle.object_making.specs.Listings.{values}
use Rattle.object_making.specs.declared.listed.Listed.{Listed}

-- the entries of each tree are as Git has them
abbrev pub AreFormed : Trees → Type 0
AreFormed trees = (id : List ℕ) → AreWellFormed (listed (trees id))

-- there are no trees that have exactly these paths at a place, with so many levels left
abbrev pub IsNoTree : ℕ → List ℕ → List Listed → Type 0
IsNoTree left front listing = (trees : Trees) (id : List ℕ) → AreFormed trees → path_values (steps trees left front id)
    ≡ values listing → ⊥

-- a part of a tree's entries has the paths that are left, and may stand after those that are made
pub record Matches (into : List ℕ → List ℕ → List Step) (holder front : List ℕ) (made : List TreeEntry)
    (rest : List Listed) : Type 0 where
  pub entries : List TreeEntry
  pub formed : AreWellFormed entries
  pub ahead : AllByRecursion (λ earlier. AllByRecursion (Precedes earlier) entries) made
  pub left : path_values (below into holder front entries) ≡ values rest

-- the place is that of a directory of this name
pub record IsPlace (front name place : List ℕ) : Type 0 where
  pub at : place ≡ front ++ (name ++ 47 ∷ [])
  pub plain : has_byte 47 name ≡ false
