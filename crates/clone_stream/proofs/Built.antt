-- A rising list that is put into the empty map, entry by entry, is the list of the map's entries.
use Rattle.std.proofs.Common.{◌≡◌, ℕ, Bool, true, false, List, [], ◌∷◌, ◌++◌, length, refl, sym, ap, ◌∙◌, append_assoc, arith}
use Rattle.std.specs.Prelude.{T, map}
use Rattle.std.specs.List.{AllByRecursion}
use Rattle.std.specs.Ordering.{is_lt, ordering_reverse}
use Rattle.std.specs.declared.cmp.Ordering.{Ordering}
use Rattle.std.specs.declared.cmp.Ordering.TheVariants.{Less, Equal, Greater}
use Rattle.std.specs.FinMap.{empty, entries, entries-insert, entries_sorted, insert, len-empty, len-entries}
use Rattle.std.specs.FinMap.Entries.{below_all, by_order, is_sorted, put}
use Rattle.std.proofs.lemmas.Bool.{and_parts}
use Rattle.std.proofs.lemmas.Cmp.{nat_list_cmp_total}
use Rattle.octets.specs.BytesMap.{BytesMap, by_bytes}
use Rattle.git_object.specs.Objects.{Pair, pair_id}
use Rattle.keeper_api.specs.Changes.{with_objects, with_refs}
use Rattle.clone_stream.specs.Changes.{set_ref}
use Rattle.clone_stream.specs.Streams.{IsOwn}

no_length : {A : Type 0} (es : List A) → length es ≡ 0 → es ≡ []
no_length [] e = refl
no_length (x ∷ es) e = absurd (omega arith)

pub entries-empty : {X : Type 0} → entries (empty {X = X} {R = by_bytes}) ≡ []
entries-empty {X} = no_length (entries (empty {X = X} {R = by_bytes})) (sym (len-entries (empty {X = X} {R = by_bytes})) ∙ len-empty by_bytes X)

-- entries rise, as an equation
pub entries_rise : {X : Type 0} (m : BytesMap X) → is_sorted by_bytes (entries m) ≡ true
entries_rise m = is_so (is_sorted by_bytes (entries m)) (entries_sorted m)
  where
    is_so : (b : Bool) → T b → b ≡ true
    is_so true h = refl
    is_so false h = absurd h

turned : (o : Ordering) → is_lt o ≡ true → ordering_reverse o ≡ Greater
turned Less e = refl
turned Equal e = cc
turned Greater e = cc

-- a key after all others goes to the end
put_end : {X : Type 0} (ds : List (List ℕ × X)) (k : List ℕ) (v : X) (es : List (List ℕ × X)) → is_sorted by_bytes (ds ++ (k, v) ∷ es) ≡ true → put by_bytes k v ds ≡ ds ++ (k, v) ∷ []
put_end {X = X} [] k v es s = refl
put_end {X = X} (d ∷ ds) k v es s =
    let parts = and_parts (below_all by_bytes d.0 (ds ++ (k, v) ∷ es)) (is_sorted by_bytes (ds ++ (k, v) ∷ es)) s in
    let after : by_bytes k d.0 ≡ Greater = nat_list_cmp_total.antisymm k d.0 ∙ turned (by_bytes d.0 k) (has ds parts.0) in
    ap (λ (o : Ordering). by_order o ((k, v) ∷ d ∷ ds) ((d.0, v) ∷ ds) (d ∷ put by_bytes k v ds)) after ∙ ap (λ rest. d ∷ rest) (put_end ds k v es parts.1)
  where
    has : (xs : List (List ℕ × X)) → below_all by_bytes d.0 (xs ++ (k, v) ∷ es) ≡ true → is_lt (by_bytes d.0 k) ≡ true
    has [] p = (and_parts (is_lt (by_bytes d.0 k)) (below_all by_bytes d.0 es) p).0
    has (x ∷ xs) p = has xs (and_parts (is_lt (by_bytes d.0 x.0)) (below_all by_bytes d.0 (xs ++ (k, v) ∷ es)) p).1

-- one entry more
step : {X : Type 0} (m : BytesMap X) (ds : List (List ℕ × X)) (k : List ℕ) (v : X) (es : List (List ℕ × X)) → entries m ≡ ds → is_sorted by_bytes (ds ++ (k, v) ∷ es) ≡ true
    → entries (insert m k v) ≡ ds ++ (k, v) ∷ []
step m ds k v es e s = entries-insert nat_list_cmp_total m k v ∙ ap (put by_bytes k v) e ∙ put_end ds k v es s

objects_from : (es ds : List (List ℕ × Pair)) (m : BytesMap Pair) → AllByRecursion IsOwn es → entries m ≡ ds → is_sorted by_bytes (ds ++ es) ≡ true
    → entries (with_objects (map (λ e. e.1) es) m) ≡ ds ++ es
objects_from [] ds m own e s = e ∙ sym (nothing ds)
  where
    nothing : (xs : List (List ℕ × Pair)) → xs ++ [] ≡ xs
    nothing [] = refl
    nothing (x ∷ xs) = ap (λ rest. x ∷ rest) (nothing xs)
objects_from (x ∷ es) ds m own e s =
    let key : pair_id x.1 ≡ x.0 = own.0.is.own in
    let here : entries (insert m (pair_id x.1) x.1) ≡ ds ++ x ∷ [] = ap (λ k. entries (insert m k x.1)) key ∙ step m ds x.0 x.1 es e s in
    objects_from es (ds ++ x ∷ []) (insert m (pair_id x.1) x.1) own.1 here (ap (is_sorted by_bytes) (append_assoc ds (x ∷ []) es) ∙ s) ∙ append_assoc ds (x ∷ []) es

pub objects_built : (es : List (List ℕ × Pair)) → AllByRecursion IsOwn es → is_sorted by_bytes es ≡ true → entries (with_objects (map (λ e. e.1) es) empty) ≡ es
objects_built es own s = objects_from es [] empty own entries-empty s

refs_from : (es ds : List (List ℕ × List ℕ)) (m : BytesMap (List ℕ)) → entries m ≡ ds → is_sorted by_bytes (ds ++ es) ≡ true → entries (with_refs (map set_ref es) m) ≡ ds ++ es
refs_from [] ds m e s = e ∙ sym (nothing ds)
  where
    nothing : (xs : List (List ℕ × List ℕ)) → xs ++ [] ≡ xs
    nothing [] = refl
    nothing (x ∷ xs) = ap (λ rest. x ∷ rest) (nothing xs)
refs_from (x ∷ es) ds m e s =
    refs_from es (ds ++ x ∷ []) (insert m x.0 x.1) (step m ds x.0 x.1 es e s) (ap (is_sorted by_bytes) (append_assoc ds (x ∷ []) es) ∙ s) ∙ append_assoc ds (x ∷ []) es

pub refs_built : (es : List (List ℕ × List ℕ)) → is_sorted by_bytes es ≡ true → entries (with_refs (map set_ref es) empty) ≡ es
refs_built es s = refs_from es [] empty entries-empty s
