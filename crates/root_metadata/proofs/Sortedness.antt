-- Lists that rise, and what may stand at their end.
use Rattle.std.proofs.Common.{◌≡◌, ℕ, ◌+◌, ◌-◌, ◌<◌, suc, arith, List, [], ◌∷◌, ◌++◌, length, append-nil, refl, sym, ap, subst, ◌∙◌, inl, inr}
use Rattle.std.specs.Prelude.{true, false, map, slice_get, slice_index_or, Bool, Some, ◌||◌}
use Rattle.std.specs.List.{AllByRecursion, AllWithin, HoldsAt}
use Rattle.std.specs.List.Sorted.{IsSortedBy, IsStrictlySortedBy}
use Rattle.std.specs.FinMap.{nat_cmp-IsAntisymmetric, slice_cmp-IsAntisymmetric}
use Rattle.std.specs.Ordering.{is_lt, ordering_reverse}
use Rattle.std.specs.Str.{bytes_eq}
use Rattle.std.specs.declared.cmp.Ordering.{Ordering}
use Rattle.std.specs.declared.cmp.Ordering.TheVariants.{Less, Equal, Greater}
use Rattle.std.proofs.lemmas.Bool.{cases_Bool, cases_lt, or_right}
use Rattle.std.proofs.lemmas.Cmp.{nat_list_cmp_total}
use Rattle.std.proofs.lemmas.Slice.Eq.{bytes_eq-Decides}
use Prim.Native.Nat as Nat
use native.Mathlib.Numerals.{unary_clauses}
use Rattle.octets.specs.BytesMap.{by_bytes}
use Rattle.root_metadata.specs.Risings.{IsRising, has_key, is_next}

less : (o : Ordering) → is_lt o ≡ true → o ≡ Less
less Less h = refl
less Equal h = cc
less Greater h = cc

module _ {T : Type 0} (key : T → List ℕ) where
  pub rising_none : IsRising key []
  unfolding IsStrictlySortedBy
  rising_none = tt

  -- the first item's key is less than what may stand at the end
  below_next : (x y : T) (ys : List T) (next : List ℕ) → IsRising key (x ∷ y ∷ ys) → is_next key (y ∷ ys) next ≡ true → by_bytes (key x) next ≡ Less
  unfolding IsStrictlySortedBy
  below_next x y [] next is at = nat_list_cmp_total.trans (key x) (key y) next is.0.0 (less _ at)
  below_next x y (z ∷ zs) next is at = nat_list_cmp_total.trans (key x) (key y) next is.0.0 (below_next y z zs next is.1 at)

  all_push : (P : List ℕ → Type 0) (xs : List T) (x : T) → AllByRecursion P (map key xs) → P (key x) → AllByRecursion P (map key (xs ++ x ∷ []))
  all_push P [] x all here = (here, tt)
  all_push P (y ∷ ys) x all here = (all.0, all_push P ys x all.1 here)

  pub rising_push : (xs : List T) (x : T) → IsRising key xs → is_next key xs (key x) ≡ true → IsRising key (xs ++ x ∷ [])
  unfolding IsStrictlySortedBy
  rising_push [] x is at = (tt, tt)
  rising_push (y ∷ []) x is at = ((less _ at, tt), (tt, tt))
  rising_push (y ∷ z ∷ zs) x is at =
      (all_push (λ k. by_bytes (key y) k ≡ Less) (z ∷ zs) x is.0 (below_next y z zs (key x) is at), rising_push (z ∷ zs) x is.1 at)

  next_at : (n : ℕ) (xs : List T) (next : List ℕ) (last : T) → length xs ≡ suc n → slice_get xs n ≡ Some last → is_next key xs next ≡ is_lt (by_bytes (key last) next)
  next_at n [] next last count is = cc
  next_at Nat.zero (x ∷ []) next last count is = let same : x ≡ last = cc in ap (λ y. is_lt (by_bytes (key y) next)) same
  next_at (suc n) (x ∷ []) next last count is = absurd (omega (arith, count))
  next_at Nat.zero (x ∷ y ∷ ys) next last count is = absurd (omega (arith, count))
  next_at (suc n) (x ∷ y ∷ ys) next last count is = next_at n (y ∷ ys) next last (omega (arith, count)) is

  pub next_of_last : (xs : List T) (next : List ℕ) (last : T) → slice_get xs (length xs - 1) ≡ Some last → is_next key xs next ≡ is_lt (by_bytes (key last) next)
  next_of_last [] next last is = cc
  next_of_last (x ∷ xs) next last is = next_at (length xs) (x ∷ xs) next last refl (simp unary_clauses at is)

-- ---- a search by keys

reversed : (o r : Ordering) → r ≡ ordering_reverse o → o ≡ Less → is_lt r ≡ false
reversed o r e less = ap is_lt (e ∙ ap ordering_reverse less)

less_other : (a b : List ℕ) → by_bytes a b ≡ Less → a ≡ b → ⊥
less_other a b less same =
    let self : by_bytes a a ≡ Less = subst (λ (x : List ℕ). by_bytes a x ≡ Less) (sym same) less in
    let clash : Less ≡ Greater = sym self ∙ nat_list_cmp_total.antisymm a a ∙ ap ordering_reverse self in cc

greater_other : (a b : List ℕ) → by_bytes a b ≡ Greater → a ≡ b → ⊥
greater_other a b greater same = less_other b a (nat_list_cmp_total.antisymm b a ∙ ap ordering_reverse greater) (sym same)

is_other : (a b : List ℕ) → (a ≡ b → ⊥) → bytes_eq a b ≡ false
is_other a b other = elim (cases_Bool (bytes_eq a b)) [
  | inl same ↦ absurd (other ((bytes_eq-Decides a b).0 same))
  | inr differs ↦ differs
]

module _ {T : Type 0} (key : T → List ℕ) where
  neighbours : (xs : List T) (d : T) (k : ℕ) → IsRising key xs → suc k < length xs → by_bytes (key (slice_index_or xs k d)) (key (slice_index_or xs (suc k) d)) ≡ Less
  unfolding IsStrictlySortedBy
  neighbours [] d k is short = absurd (omega arith)
  neighbours (x ∷ []) d k is short = absurd (omega arith)
  neighbours (x ∷ y ∷ xs) d Nat.zero is short = is.0.0
  neighbours (x ∷ y ∷ xs) d (suc k) is short = neighbours (y ∷ xs) d k is.1 (omega arith)

  pub keys_sorted : (xs : List T) → IsRising key xs → IsSortedBy (λ a b. is_lt (by_bytes (key a) (key b))) xs
  keys_sorted xs is k d low short =
      let next : k + 1 ≡ suc k = omega arith in
      let here : by_bytes (key (slice_index_or xs k d)) (key (slice_index_or xs (k + 1) d)) ≡ Less =
      ap (λ (j : ℕ). by_bytes (key (slice_index_or xs k d)) (key (slice_index_or xs j d))) next ∙ neighbours xs d k is (omega arith) in
      reversed (by_bytes (key (slice_index_or xs k d)) (key (slice_index_or xs (k + 1) d))) (by_bytes (key (slice_index_or xs (k + 1) d)) (key (slice_index_or xs k d)))
      (nat_list_cmp_total.antisymm (key (slice_index_or xs (k + 1) d)) (key (slice_index_or xs k d))) here

  pub found_key : (xs : List T) (wanted : List ℕ) (i : ℕ) → i < length xs → HoldsAt (λ x. by_bytes (key x) wanted ≡ Equal) xs i → has_key key xs wanted ≡ true
  found_key [] wanted i short found = absurd (omega arith)
  found_key (x ∷ xs) wanted Nat.zero short found =
      ap (λ (b : Bool). b || has_key key xs wanted) ((bytes_eq-Decides (key x) wanted).1 (slice_cmp-IsAntisymmetric nat_cmp-IsAntisymmetric (key x) wanted (found x)))
  found_key (x ∷ xs) wanted (suc i) short found = or_right (bytes_eq (key x) wanted) (has_key key xs wanted) (found_key xs wanted i (omega arith) (λ d. found d))

  none_has : (xs : List T) (wanted : List ℕ) → ((k : ℕ) (d : T) → k < length xs → bytes_eq (key (slice_index_or xs k d)) wanted ≡ false) → has_key key xs wanted ≡ false
  none_has [] wanted none = refl
  none_has (x ∷ xs) wanted none =
      let here = none 0 x (omega arith) in
      let later = none_has xs wanted (λ k d short. none (suc k) d (omega arith)) in
      λ i. here i || later i

  pub missed_key : (xs : List T) (wanted : List ℕ) (i : ℕ) → AllWithin (λ x. by_bytes (key x) wanted ≡ Less) xs 0 i → AllWithin (λ x. by_bytes (key x) wanted ≡ Greater) xs i (length xs)
      → has_key key xs wanted ≡ false
  missed_key xs wanted i below above = none_has xs wanted (λ k d short. is_other (key (slice_index_or xs k d)) wanted (elim (cases_lt k i) [
    | inl before ↦ less_other _ _ (below k d (omega arith) before)
    | inr after ↦ greater_other _ _ (above k d after short)
  ]))

same_keys : (ks : List (List ℕ)) → map (λ k. k) ks ≡ ks
same_keys [] = refl
same_keys (k ∷ ks) = ap (λ more. k ∷ more) (same_keys ks)

pub rising_keys : (list ks : List (List ℕ)) → list ≡ ks → IsStrictlySortedBy by_bytes ks → IsRising (λ k. k) list
rising_keys list ks is sorted = rw (is, same_keys ks) sorted

-- nothing is left of what was gone through
pub all_left : {T : Type 0} (list left whole keys : List T) → list ++ left ≡ whole → left ≡ [] → whole ≡ keys → list ≡ keys
all_left list left whole keys is none same = sym (append-nil list) ∙ ap (λ more. list ++ more) (sym none) ∙ is ∙ same
