-- The walk of a tree: its steps in pre-order, what they count, and the first bad one.
use Rattle.std.specs.Prelude.{◌≤◌, ◌+◌, ◌*◌, ◌<◌, ◌==◌, ◌&&◌, ◌||◌, ◌++◌, ◌∷◌}
use Rattle.std.specs.Prelude.{[], ℕ, suc, Bool, true, false, not, cond}
use Rattle.std.specs.Prelude.{nat_le, List, length, Option, Some, None}
use Rattle.git_object.specs.Trees.{sort_key}
use Rattle.git_object.specs.declared.modes.Mode.{Mode}
use Rattle.git_object.specs.declared.modes.Mode.TheVariants.{Dir, Exec, File, Link, Module}
use Rattle.git_object.specs.declared.trees.TreeEntry.{TreeEntry}
use Rattle.tree_paths.specs.Readings.{Trees}
use Rattle.tree_paths.specs.declared.counts.Counts.{Counts}
use Rattle.tree_paths.specs.declared.counts.Walked.{Walked}
use Rattle.tree_paths.specs.declared.counts.Walked.TheVariants.{Broken, Counted}
use Prim.Native.Nat as Nat

-- a tree is visited at this place, with so many levels left for it and for what is below it; or a path stands in a tree
pub data Step : Type 0 where
  Visit : (left : ℕ) (place : List ℕ) (id : List ℕ) → Step
  Leaf : (holder : List ℕ) (path : List ℕ) (mode : Mode) (id : List ℕ) → Step

abbrev pub is_dir : Mode → Bool
is_dir Dir = true
is_dir File = false
is_dir Exec = false
is_dir Link = false
is_dir Module = false

-- where what an entry names stands, below the place of its tree: a directory's place ends in a slash
abbrev pub place_of : List ℕ → TreeEntry → List ℕ
place_of front entry = front ++ sort_key entry

-- an entry of a tree at a place: the steps of a directory's tree, or one path
abbrev pub entry_steps : (List ℕ → List ℕ → List Step) → List ℕ → List ℕ → TreeEntry → Bool → List Step
entry_steps into holder front entry true = into (place_of front entry) entry.id
entry_steps into holder front entry false = Leaf holder (place_of front entry) entry.mode entry.id ∷ []

-- the entries of a tree at a place, one after the other
abbrev pub below : (List ℕ → List ℕ → List Step) → List ℕ → List ℕ → List TreeEntry → List Step
below into holder front [] = []
below into holder front (entry ∷ entries) =
    entry_steps into holder front entry (is_dir entry.mode) ++ below into holder front entries

abbrev pub listed : Option (List TreeEntry) → List TreeEntry
listed None = []
listed (Some entries) = entries

-- the steps of a tree at a place, in pre-order; a tree for which no level is left is a step, and nothing is below it
unfoldable pub steps : Trees → ℕ → List ℕ → List ℕ → List Step
steps trees Nat.zero front id = Visit 0 front id ∷ []
steps trees (suc n) front id = Visit (suc n) front id ∷ below (steps trees n) id front (listed (trees id))

-- ---- counts

-- one more visited tree, and one more path of so many bytes
abbrev pub one_dir : Counts → Counts
one_dir c = record { paths = c.paths; dirs = c.dirs + 1; bytes = c.bytes }

abbrev pub one_path : Counts → ℕ → Counts
one_path c len = record { paths = c.paths + 1; dirs = c.dirs; bytes = c.bytes + len }

abbrev pub no_counts : Counts
no_counts = record { paths = 0; dirs = 0; bytes = 0 }

-- one more path of so many bytes is within the limits: 262,144 paths, 4,096 bytes a path, 64 MiB of paths together
abbrev pub has_room : Counts → ℕ → Bool
has_room c len = nat_le (c.paths + 1) 262144 && nat_le len 4096 && nat_le (c.bytes + len) 67108864

-- a tree may be visited: it is one, a level is left for it, and it is not empty, unless it is the root
abbrev pub is_open : ℕ → Bool → Option (List TreeEntry) → Bool
is_open left root None = false
is_open left root (Some entries) = nat_le 1 left && (root || not (length entries == 0))

abbrev pub visit : List ℕ → Bool → Counts → Walked
visit id good c = cond good (Counted (one_dir c)) (Broken id)

abbrev pub leaf : List ℕ → ℕ → Counts → Walked
leaf holder len c = cond (has_room c len) (Counted (one_path c len)) (Broken holder)

-- a step after these counts: a bad visit names its tree, a bad path the tree that holds it
abbrev pub take_step : Trees → Counts → Step → Walked
take_step trees c (Visit left place id) = visit id (is_open left (length place == 0) (trees id)) c
take_step trees c (Leaf holder path mode id) = leaf holder (length path) c

abbrev pub goes_on : Walked → (Counts → Walked) → Walked
goes_on (Broken id) next = Broken id
goes_on (Counted c) next = next c

-- stops at the first bad step, and counts the steps otherwise
abbrev pub judge : Trees → List Step → Counts → Walked
judge trees [] c = Counted c
judge trees (step ∷ rest) c = goes_on (take_step trees c step) (judge trees rest)

-- the entries of a tree that may be visited
abbrev pub opened : ℕ → Bool → Option (List TreeEntry) → Option (List TreeEntry)
opened left root tree = cond (is_open left root tree) tree None

-- counts within the limits: each visited tree but the root holds a path at most 32 levels below it
pub record IsFew (left : ℕ) (c : Counts) : Type 0 where
  pub few : c.paths ≤ 262144
  pub room : left < 32 → c.dirs ≤ 32 * c.paths
  pub top : c.dirs ≤ 32 * c.paths + 1

-- what a walk that counts says of its counts and of the reads: each visited tree is read once
pub record Grown (left : ℕ) (start : Counts) (reads : ℕ) (c : Counts) (reads_after : ℕ) : Type 0 where
  pub few : c.paths ≤ 262144
  pub room : left < 32 → c.dirs ≤ 32 * c.paths
  pub top : c.dirs ≤ 32 * c.paths + 1
  pub spent : reads_after + start.dirs ≤ reads + c.dirs

abbrev pub IfCounted : Walked → (Counts → Type 0) → Type 0
IfCounted (Broken id) P = Unit {0}
IfCounted (Counted c) P = P c
