-- What is known of trees: what the walk of each adds, wherever the limits have room for it.
use Rattle.std.specs.Prelude.{◌≡◌, ◌≤◌, ℕ, List, Some, IfSome, IsSome, length, min}
use Rattle.std.specs.BTreeMap as tree
use Rattle.std.specs.BTreeMap.{btree_map_len}
use Rattle.octets.specs.BytesMap.{by_bytes}
use Rattle.git_object.specs.Repository.{Repository}
use Rattle.tree_paths.specs.Adding.{Adds}
use Rattle.tree_paths.specs.Readings.{AreReadings, Readings, Trees}
use Rattle.tree_paths.specs.Walks.{steps}
use Rattle.tree_paths.specs.declared.known_trees.KnownTree.{KnownTree}
use Rattle.tree_paths.specs.declared.known_trees.KnownTrees.{KnownTrees}

-- at each place of so many bytes (of 8,192, where it has more), the walk of the tree of this id with so many levels
-- left adds this, and the tree has the entries that are kept of it
pub record HoldsOf (trees : Trees) (id : List ℕ) (row : KnownTree) : Type 0 where
  pub adds : (front : List ℕ) → row.len ≡ min (length front) 8192 → Adds trees (steps trees row.left front id) row.adds
  pub entries : IfSome row.entries (λ entries. trees id ≡ Some entries)

-- it stands closed, so that what is known is handed on as one fact
unfoldable pub IsKnown : Trees → List ℕ → KnownTree → Type 0
IsKnown trees id row = HoldsOf trees id row

abbrev pub AreKnown : Trees → KnownTrees → Type 0
AreKnown trees known = (id : List ℕ) (row : KnownTree) → tree.get by_bytes known.rows id ≡ Some row
    → IsKnown trees id row

-- what is known is so in this repository
abbrev pub AreKnownIn : Repository → KnownTrees → Type 0
AreKnownIn r known = (readings : Readings) → AreReadings r readings → AreKnown readings.trees known

-- something is kept of at most 65,536 trees
abbrev pub AreFewKnown : KnownTrees → Type 0
AreFewKnown known = btree_map_len known.rows ≤ 65536

-- nothing is let go before more than 4,096 trees are known
abbrev pub HasRoom : KnownTrees → Type 0
HasRoom known = 4096 ≤ known.most

-- each tree of which something was kept is one of which something is kept
abbrev pub StayKnown : KnownTrees → KnownTrees → Type 0
StayKnown was now = (id : List ℕ) → IsSome (tree.get by_bytes was.rows id) → IsSome (tree.get by_bytes now.rows id)

-- what the tree of this id adds is kept, with so many levels left, at a place of so many bytes
pub record IsAt (known : KnownTrees) (id : List ℕ) (left len : ℕ) : Type 0 where
  pub row : KnownTree
  pub there : tree.get by_bytes known.rows id ≡ Some row
  pub left_is : row.left ≡ left
  pub len_is : row.len ≡ len
