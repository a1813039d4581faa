-- Finite maps whose keys are byte lists, in the order of their bytes.
use Rattle.std.specs.Prelude.{ℕ, List, Option, Some, None, slice_get}
use Rattle.std.specs.List.{find}
use Rattle.std.specs.Ordering.{nat_cmp, is_lt}
use Rattle.std.specs.Cmp.Lexicographic.{slice_cmp}
use Rattle.std.specs.FinMap.{FinMap, entries, from_entries}
use Rattle.std.specs.BTreeMap.{BTreeMap}
use Rattle.std.specs.declared.cmp.Ordering.{Ordering}

-- the order of bytes
abbrev pub by_bytes : List ℕ → List ℕ → Ordering
by_bytes = slice_cmp nat_cmp

abbrev pub BytesMap : Type 0 → Type 0
BytesMap X = FinMap by_bytes X

-- the first entry whose key is greater than the one given, or the first of all
abbrev pub first_after : {X : Type 0} → List (List ℕ × X) → Option (List ℕ) → Option (List ℕ × X)
first_after {X} es None = slice_get es 0
first_after es (Some key) = find (λ e. is_lt (by_bytes key e.0)) es

abbrev pub entry_after : {X : Type 0} → BytesMap X → Option (List ℕ) → Option (List ℕ × X)
entry_after map key = first_after (entries map) key

-- the map that a tree of the standard library holds
abbrev pub map_of : {X : Type 0} → BTreeMap (List ℕ) X → BytesMap X
map_of tree = from_entries tree.entries
