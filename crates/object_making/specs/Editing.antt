-- A tree with one entry put in its place.
use Rattle.std.specs.Prelude.{◌≡◌, ◌≢◌, ◌∷◌, [], ℕ, List, Some}
use Rattle.std.specs.declared.cmp.Ordering.{Ordering}
use Rattle.std.specs.declared.cmp.Ordering.TheVariants.{Less, Equal, Greater}
use Rattle.octets.specs.BytesMap.{by_bytes}
use Rattle.git_object.specs.Trees.{AreWellFormed, sort_key}
use Rattle.git_object.specs.declared.trees.TreeEntry.{TreeEntry}
use Rattle.tree_paths.specs.Lookups.{entry_named}

abbrev pub place : Ordering → TreeEntry → TreeEntry → List TreeEntry → List TreeEntry → List TreeEntry
place Less entry first rest after = entry ∷ first ∷ rest
place Equal entry first rest after = entry ∷ rest
place Greater entry first rest after = first ∷ after

-- the entry before those that come after it in Git's order, and in the place of one that stands there already
abbrev pub put_entry : TreeEntry → List TreeEntry → List TreeEntry
put_entry entry [] = entry ∷ []
put_entry entry (first ∷ rest) = place (by_bytes (sort_key entry) (sort_key first)) entry first rest
    (put_entry entry rest)

-- the same in words of the tree: it is in Git's order, has the entry under its name, and under each other name what it
-- had
pub record IsPut (old : List TreeEntry) (entry : TreeEntry) (new : List TreeEntry) : Type 0 where
  pub formed : AreWellFormed new
  pub put : entry_named entry.name new ≡ Some entry
  pub others : (name : List ℕ) → name ≢ entry.name → entry_named name new ≡ entry_named name old
