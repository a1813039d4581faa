-- What a path names: trees lead to it by its names.
use Rattle.std.specs.Prelude.{◌≡◌, ◌⊎◌, ◌↔◌, ◌++◌, ◌∷◌, [], ℕ, Bool, true, false, List, Some}
use Rattle.std.specs.FinMap.{get}
use Rattle.git_object.specs.declared.modes.Mode.{Mode}
use Rattle.git_object.specs.declared.trees.TreeEntry.{TreeEntry}
use Rattle.tree_paths.specs.Readings.{Trees}
use Rattle.tree_paths.specs.States.{path_map}
use Rattle.tree_paths.specs.Walks.{is_dir, judge, listed, no_counts, steps}
use Rattle.tree_paths.specs.declared.counts.Counts.{Counts}
use Rattle.tree_paths.specs.declared.counts.Walked.TheVariants.{Counted}

-- it stands among these
abbrev pub Among : {X : Type 0} → X → List X → Type 0
Among x [] = ⊥
Among x (y ∷ ys) = (y ≡ x) ⊎ Among x ys

-- an entry of this name stands among these, of a directory or of none
pub record Names (entries : List TreeEntry) (name : List ℕ) (e : TreeEntry) (dir : Bool) : Type 0 where
  pub has : Among e entries
  pub name_is : e.name ≡ name
  pub kind : is_dir e.mode ≡ dir

-- from this tree, directories of all names but the last lead to an entry of the last name, of this mode and id
abbrev pub Leads : Trees → List (List ℕ) → List ℕ → Mode → List ℕ → Type 0
Leads trees [] tree mode id = ⊥
Leads trees (name ∷ []) tree mode id = (e : TreeEntry) × Names (listed (trees tree)) name e false × (e.mode ≡ mode)
    × (e.id ≡ id)
Leads trees (name ∷ next ∷ names) tree mode id = (e : TreeEntry) × Names (listed (trees tree)) name e true
    × Leads trees (next ∷ names) e.id mode id

-- names joined by slashes
abbrev pub join : List (List ℕ) → List ℕ
join [] = []
join (name ∷ []) = name
join (name ∷ next ∷ names) = name ++ 47 ∷ join (next ∷ names)

-- where the walk of a root counts, its map has at a path exactly the value to which trees lead by the path's names
abbrev pub IsMapOfTrees : Trees → List ℕ → Type 0
IsMapOfTrees trees root =
    (c : Counts) (path : List ℕ) (mode : Mode) (id : List ℕ) → judge trees (steps trees 32 [] root) no_counts
    ≡ Counted c
    → (get (path_map (steps trees 32 [] root)) path ≡ Some (mode, id)) ↔ ((names : List (List ℕ)) × (path ≡ join names)
    × Leads trees names root mode id)
