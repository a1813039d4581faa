-- A search among objects whose ids rise.
use Rattle.std.proofs.Common.{◌≡◌, ℕ, ◌+◌, ◌<◌, suc, arith, List, [], ◌∷◌, length, refl, sym, ap, subst, ◌∙◌, inl, inr}
use Rattle.std.specs.Prelude.{Bool, true, false, Some, None, cond, map, slice_get, slice_index_or}
use Rattle.std.specs.FinMap.{nat_cmp-IsAntisymmetric, slice_cmp-IsAntisymmetric}
use Rattle.std.specs.FinMap.Entries.{below_all, is_sorted}
use Rattle.std.specs.List.{AllByRecursion, AllWithin, HoldsAt}
use Rattle.std.specs.List.Sorted.{IsSortedBy, IsStrictlySortedBy}
use Rattle.std.specs.Ordering.{is_lt, ordering_reverse}
use Rattle.std.specs.Str.{bytes_eq}
use Rattle.std.specs.declared.cmp.Ordering.{Ordering}
use Rattle.std.specs.declared.cmp.Ordering.TheVariants.{Less, Equal, Greater}
use Rattle.std.proofs.lemmas.Bool.{and_parts, cases_Bool, cases_lt}
use Rattle.std.proofs.lemmas.Cmp.{nat_list_cmp_total}
use Rattle.std.proofs.lemmas.Slice.Eq.{bytes_eq-Decides}
use Prim.Native.Nat as Nat
use Rattle.octets.specs.BytesMap.{by_bytes}
use Rattle.git_object.specs.Objects.{Pair, pair_id}
use Rattle.pushes.specs.Pushes.{AreOwn, AreRising, object_in}
use Rattle.pushes.proofs.Fronts.{their_keys}

-- ---- the ids of a push rise

less : (o : Ordering) → is_lt o ≡ true → o ≡ Less
less Less h = refl
less Equal h = cc
less Greater h = cc

below : {X : Type 0} (key : List ℕ) (es : List (List ℕ × X)) → below_all by_bytes key es ≡ true
    → AllByRecursion (λ k. by_bytes key k ≡ Less) (map (λ (e : List ℕ × X). e.0) es)
below key [] h = tt
below {X} key (e ∷ es) h =
    let parts = and_parts (is_lt (by_bytes key e.0)) (below_all by_bytes key es) h in
    (less (by_bytes key e.0) parts.0, below key es parts.1)

rising_keys : {X : Type 0} (es : List (List ℕ × X)) → is_sorted by_bytes es ≡ true → IsStrictlySortedBy by_bytes (map (λ (e : List ℕ × X). e.0) es)
unfolding IsStrictlySortedBy
rising_keys [] h = tt
rising_keys {X} (e ∷ es) h =
    let parts = and_parts (below_all by_bytes e.0 es) (is_sorted by_bytes es) h in
    (below e.0 es parts.0, rising_keys es parts.1)

pub are_rising : (es : List (List ℕ × Pair)) (objects : List Pair) → AreOwn es objects → AreRising objects
are_rising es objects own = subst (IsStrictlySortedBy by_bytes) (sym (their_keys es objects own)) (rising_keys es own.are.ids_rise)

-- ---- the search

less_other : (a b : List ℕ) → by_bytes a b ≡ Less → a ≡ b → ⊥
less_other a b less same =
    let self : by_bytes a a ≡ Less = subst (λ (x : List ℕ). by_bytes a x ≡ Less) (sym same) less in
    let clash : Less ≡ Greater = sym self ∙ nat_list_cmp_total.antisymm a a ∙ ap ordering_reverse self in cc

greater_other : (a b : List ℕ) → by_bytes a b ≡ Greater → a ≡ b → ⊥
greater_other a b greater same = less_other b a (nat_list_cmp_total.antisymm b a ∙ ap ordering_reverse greater) (sym same)

is_other : (a b : List ℕ) → (a ≡ b → ⊥) → bytes_eq a b ≡ false
is_other a b other = elim (cases_Bool (bytes_eq a b)) [
  | inl same ↦ absurd (other ((bytes_eq-Decides a b).0 same))
  | inr differs ↦ differs
]

reversed : (o r : Ordering) → r ≡ ordering_reverse o → o ≡ Less → is_lt r ≡ false
reversed o r e less = ap is_lt (e ∙ ap ordering_reverse less)

at_place : (P : List ℕ → Type 0) (xs : List Pair) (i : ℕ) (d : Pair) → AllByRecursion P (map pair_id xs) → i < length xs → P (pair_id (slice_index_or xs i d))
at_place P [] i d all short = absurd (omega arith)
at_place P (x ∷ xs) Nat.zero d all short = all.0
at_place P (x ∷ xs) (suc i) d all short = at_place P xs i d all.1 (omega arith)

neighbours : (xs : List Pair) (d : Pair) (k : ℕ) → AreRising xs → suc k < length xs
    → by_bytes (pair_id (slice_index_or xs k d)) (pair_id (slice_index_or xs (suc k) d)) ≡ Less
unfolding IsStrictlySortedBy
neighbours [] d k is short = absurd (omega arith)
neighbours (x ∷ []) d k is short = absurd (omega arith)
neighbours (x ∷ y ∷ xs) d Nat.zero is short = is.0.0
neighbours (x ∷ y ∷ xs) d (suc k) is short = neighbours (y ∷ xs) d k is.1 (omega arith)

pub ids_sorted : (xs : List Pair) → AreRising xs → IsSortedBy (λ a b. is_lt (by_bytes (pair_id a) (pair_id b))) xs
ids_sorted xs is k d low short =
    let next : k + 1 ≡ suc k = omega arith in
    let here : by_bytes (pair_id (slice_index_or xs k d)) (pair_id (slice_index_or xs (k + 1) d)) ≡ Less =
    ap (λ (j : ℕ). by_bytes (pair_id (slice_index_or xs k d)) (pair_id (slice_index_or xs j d))) next ∙ neighbours xs d k is (omega arith) in
    reversed (by_bytes (pair_id (slice_index_or xs k d)) (pair_id (slice_index_or xs (k + 1) d)))
    (by_bytes (pair_id (slice_index_or xs (k + 1) d)) (pair_id (slice_index_or xs k d)))
    (nat_list_cmp_total.antisymm (pair_id (slice_index_or xs (k + 1) d)) (pair_id (slice_index_or xs k d))) here

-- the object that was found is the only one of its id
pub found_object : (xs : List Pair) (id : List ℕ) (i : ℕ) → AreRising xs → i < length xs → HoldsAt (λ x. by_bytes (pair_id x) id ≡ Equal) xs i
    → object_in xs id ≡ slice_get xs i
unfolding IsStrictlySortedBy
found_object [] id i is short found = absurd (omega arith)
found_object (x ∷ xs) id Nat.zero is short found =
    ap (λ (b : Bool). cond b (Some x) (object_in xs id))
    ((bytes_eq-Decides (pair_id x) id).1 (slice_cmp-IsAntisymmetric nat_cmp-IsAntisymmetric (pair_id x) id (found x)))
found_object (x ∷ xs) id (suc i) is short found =
    let same : pair_id (slice_index_or xs i x) ≡ id = slice_cmp-IsAntisymmetric nat_cmp-IsAntisymmetric (pair_id (slice_index_or xs i x)) id (found x) in
    let before : by_bytes (pair_id x) id ≡ Less = subst (λ (k : List ℕ). by_bytes (pair_id x) k ≡ Less) same
    (at_place (λ k. by_bytes (pair_id x) k ≡ Less) xs i x is.0 (omega arith)) in
    ap (λ (b : Bool). cond b (Some x) (object_in xs id)) (is_other (pair_id x) id (less_other (pair_id x) id before))
    ∙ found_object xs id i is.1 (omega arith) (λ d. found d)

none_of : (xs : List Pair) (id : List ℕ) → ((k : ℕ) (d : Pair) → k < length xs → bytes_eq (pair_id (slice_index_or xs k d)) id ≡ false)
    → object_in xs id ≡ None
none_of [] id none = refl
none_of (x ∷ xs) id none =
    ap (λ (b : Bool). cond b (Some x) (object_in xs id)) (none 0 x (omega arith)) ∙ none_of xs id (λ k d short. none (suc k) d (omega arith))

pub missed_object : (xs : List Pair) (id : List ℕ) (i : ℕ) → AllWithin (λ x. by_bytes (pair_id x) id ≡ Less) xs 0 i
    → AllWithin (λ x. by_bytes (pair_id x) id ≡ Greater) xs i (length xs)
    → object_in xs id ≡ None
missed_object xs id i lower above = none_of xs id (λ k d short. is_other (pair_id (slice_index_or xs k d)) id (elim (cases_lt k i) [
  | inl before ↦ less_other _ _ (lower k d (omega arith) before)
  | inr after ↦ greater_other _ _ (above k d after short)
]))

-- an item at its place, as an index reads it
pub some_at : (xs : List Pair) (i : ℕ) (x : Pair) → i < length xs → x ≡ slice_index_or xs i x → Some x ≡ slice_get xs i
some_at [] i x short is = absurd (omega (arith, short))
some_at (y ∷ xs) Nat.zero x short is = ap Some is
some_at (y ∷ xs) (suc i) x short is = some_at xs i x (omega (arith, short)) is
