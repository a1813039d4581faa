-- A tree of the standard library as a finite map, in any order of its keys.
use Rattle.std.specs.Prelude.{List, [], ◌∷◌, Option, Some, None}
use Rattle.std.specs.FinMap.{FinMap, from_entries, insert}
use Rattle.std.specs.BTreeMap.{BTreeMap}
use Rattle.std.specs.declared.cmp.Ordering.{Ordering}
use Rattle.std.specs.declared.ops.Bound.{Bound}
use Rattle.std.specs.declared.ops.Bound.TheVariants.{Excluded, Unbounded}

-- the map that a tree holds
abbrev pub tree_map : {K X : Type 0} → (R : K → K → Ordering) → BTreeMap K X → FinMap R X
tree_map R tree = from_entries tree.entries

-- the entries inserted one after the other
abbrev pub with_entries : {K X : Type 0} {R : K → K → Ordering} → List (K × X) → FinMap R X → FinMap R X
with_entries [] m = m
with_entries (e ∷ es) m = with_entries es (insert m e.0 e.1)

-- the bound right after a key, or none
abbrev pub bound_after : {K : Type 0} → Option K → Bound K
bound_after None = Unbounded
bound_after (Some key) = Excluded key
