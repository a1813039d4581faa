-- The trees that a walk visits: their ids, and that each may be visited.
use Rattle.std.specs.Prelude.{◌≡◌, ◌++◌, ◌∷◌, ◌==◌, [], ℕ, suc, Bool, true, false, List, length}
use Rattle.std.specs.List.{AllByRecursion}
use Rattle.git_object.specs.declared.trees.TreeEntry.{TreeEntry}
use Rattle.tree_paths.specs.Readings.{Trees}
use Rattle.tree_paths.specs.Walks.{Leaf, Step, Visit, is_dir, is_open, listed}
use Prim.Native.Nat as Nat

-- the trees to which an entry leads: those of a directory's, and else none
abbrev pub ids_at : (List ℕ → List (List ℕ)) → TreeEntry → Bool → List (List ℕ)
ids_at into entry true = into entry.id
ids_at into entry false = []

-- the entries of a tree, one after the other
abbrev pub ids_below : (List ℕ → List (List ℕ)) → List TreeEntry → List (List ℕ)
ids_below into [] = []
ids_below into (entry ∷ entries) = ids_at into entry (is_dir entry.mode) ++ ids_below into entries

-- the ids of the trees that the walk of a tree visits, each behind those below it
unfoldable pub tree_ids : Trees → ℕ → List ℕ → List (List ℕ)
tree_ids trees Nat.zero id = id ∷ []
tree_ids trees (suc n) id = ids_below (tree_ids trees n) (listed (trees id)) ++ id ∷ []

-- a step that is no bad visit
abbrev pub MayVisit : Trees → Step → Type 0
MayVisit trees (Visit left place id) = is_open left (length place == 0) (trees id) ≡ true
MayVisit trees (Leaf holder path mode id) = Unit {0}

-- each tree that is visited may be: it is there, a level is left for it, and it is not empty, unless it is the root
abbrev pub AreOpen : Trees → List Step → Type 0
AreOpen trees ss = AllByRecursion (MayVisit trees) ss
