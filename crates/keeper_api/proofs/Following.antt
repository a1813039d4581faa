-- The entry after a key, in a tree and in the map that it holds.
use Rattle.std.proofs.Common.{◌≡◌, ℕ, Bool, true, false, cond, not, ◌&&◌, T, List, [], ◌∷◌, Option, Some, None, refl, sym, ap, subst, ◌∙◌}
use Rattle.std.proofs.lemmas.Cmp.{nat_list_cmp_total}
use Rattle.std.proofs.lemmas.Map.Keys.{sorted_head, sorted_tail}
use Rattle.std.specs.BTreeMap.{BTreeMap, IsOrdered}
use Rattle.std.specs.BTreeMap.Range.{entries_between}
use Rattle.std.specs.FinMap.{entries, entries_sorted, get-entries, get-from_entries, is_sorted}
use Rattle.std.specs.FinMap.Entries.{below_all, same_entries}
use Rattle.std.specs.List.{AllByRecursion, filter, find, slice_get}
use Rattle.std.specs.List.Sorted.{IsStrictlySortedBy}
use Rattle.std.specs.Map.{keys_of}
use Rattle.std.specs.Ordering.{is_lt}
use Rattle.std.specs.declared.cmp.Ordering.{Ordering}
use Rattle.std.specs.declared.cmp.Ordering.TheVariants.{Less}
use Rattle.std.specs.declared.ops.Bound.TheVariants.{Unbounded}
use Rattle.octets.specs.BytesMap.{by_bytes, entry_after, map_of}
use Rattle.keeper_api.specs.Trees.{bound_after}
use Rattle.keeper_api.proofs.Trees.{exact_bytes}

both : (a b : Bool) → T a → T b → T (a && b)
both true b p q = q
both false b p q = p

below : {K X : Type 0} (R : K → K → Ordering) (k : K) (es : List (K × X)) → AllByRecursion (λ y. R k y ≡ Less) (keys_of es) → T (below_all R k es)
below R k [] h = tt
below R k (e ∷ es) h = both _ _ (subst (λ r. T (is_lt r)) (sym h.0) tt) (below R k es h.1)

sorted : {K X : Type 0} (R : K → K → Ordering) (es : List (K × X)) → IsStrictlySortedBy R (keys_of es) → T (is_sorted R es)
sorted R [] h = tt
sorted R (e ∷ es) h = both _ _ (below R e.0 es (sorted_head R e.0 (keys_of es) h)) (sorted R es (sorted_tail R e.0 (keys_of es) h))

-- the entries of the map that a tree holds are the tree's
pub entries_map_of : {X : Type 0} (t : BTreeMap (List ℕ) X) → IsOrdered by_bytes t → entries (map_of t) ≡ t.entries
entries_map_of t o =
    same_entries by_bytes nat_list_cmp_total exact_bytes (entries (map_of t)) t.entries (entries_sorted (map_of t)) (sorted by_bytes t.entries o)
    (λ q. sym (get-entries (map_of t) q) ∙ get-from_entries nat_list_cmp_total t.entries q)

and_true : (b : Bool) → (b && not false) ≡ b
and_true true = refl
and_true false = refl

first_case : {X : Type 0} (a b : Bool) (x : X) (ys : List X) (o : Option X) → a ≡ b → slice_get ys 0 ≡ o → slice_get (cond a (x ∷ ys) ys) 0 ≡ cond b (Some x) o
first_case true b x ys o e h = ap (λ c. cond c (Some x) o) e
first_case false b x ys o e h = h ∙ ap (λ c. cond c (Some x) o) e

-- the first item that passes a test
first_of_filter : {X : Type 0} (p q : X → Bool) → ((x : X) → p x ≡ q x) → (xs : List X) → slice_get (filter p xs) 0 ≡ find q xs
first_of_filter p q same [] = refl
first_of_filter p q same (x ∷ xs) =
    first_case (p x) (q x) x (filter p xs) (find q xs) (same x) (first_of_filter p q same xs)

first_of_all : {X : Type 0} (es : List (List ℕ × X)) → slice_get (entries_between by_bytes Unbounded Unbounded es) 0 ≡ slice_get es 0
first_of_all [] = refl
first_of_all (e ∷ es) = refl

pub tree_after : {X : Type 0} (t : BTreeMap (List ℕ) X) → IsOrdered by_bytes t → (key : Option (List ℕ)) → slice_get (entries_between by_bytes (bound_after key) Unbounded t.entries) 0 ≡ entry_after (map_of t) key
tree_after t o None = first_of_all t.entries ∙ ap (λ es. slice_get es 0) (sym (entries_map_of t o))
tree_after t o (Some key) =
    first_of_filter _ _ (λ e. and_true (is_lt (by_bytes key e.0))) t.entries
    ∙ ap (find (λ e. is_lt (by_bytes key e.0))) (sym (entries_map_of t o))
