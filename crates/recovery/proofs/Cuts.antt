-- What a filter leaves of a list that has three parts.
use Rattle.std.proofs.Common.{◌≡◌, ◌==◌, ◌<◌, ◌≤◌, ◌-◌, ◌⊎◌, ◌||◌, ◌++◌, nat_lt, sym, ◌∙◌, inl, inr, subst, leb, ltb, leb-true, ltb-true, ltb-false, ℕ, suc, zero, Bool, true, false, List, [], ◌∷◌, Option, Some, None, length, get_or, take, drop, refl, ap, arith}
use Rattle.std.specs.List.{All, AllPairs, AllWithin, filter, list_any, slice_get}
use Rattle.std.proofs.lemmas.List.Folds.{list_any_at, list_any_none}
use Rattle.std.proofs.lemmas.List.{get_or_default}
use Rattle.std.specs.List.Sorted.{IsBinarySearchResult, IsNonDecreasingBy}
use Rattle.std.specs.Ordering.{nat_cmp}
use Rattle.std.specs.Prelude.{Err, Ok, Result}
use Rattle.std.specs.Result.{is_ok}
use Rattle.std.proofs.lemmas.List.Sorted.{searched}
use Rattle.std.proofs.lemmas.Bool.{cases_lt, eq-eqb, le-leb, le-ltb, lt-leb, lt-ltb, ne_eqb}
use Rattle.std.specs.Option.{IfSome}
use Rattle.std.proofs.lemmas.Option.{get_or_from_slice_get, none-some, slice_get-get_or, slice_get_within}
use Rattle.recovery.specs.Lanes.{first_of, is_in, is_outside, last_of}
use Rattle.std.proofs.lemmas.List.Elements.{All-head, All-tail}

module _ {X : Type 0} (p : X → Bool) where
  pub filter_all : (xs : List X) → All (λ x. p x ≡ true) xs → filter p xs ≡ xs
  filter_all [] h = refl
  filter_all (x ∷ xs) h =
      rw (All-head (λ y. p y ≡ true) x xs h) (ap (λ ys. x ∷ ys) (filter_all xs (All-tail (λ y. p y ≡ true) x xs h)))

  pub filter_none : (xs : List X) → All (λ x. p x ≡ false) xs → filter p xs ≡ []
  filter_none [] h = refl
  filter_none (x ∷ xs) h =
      rw (All-head (λ y. p y ≡ false) x xs h) (filter_none xs (All-tail (λ y. p y ≡ false) x xs h))

  -- passed up to s and from e on, and not between the two
  pub filter_cut : (xs : List X) (s e : ℕ) → s ≤ e → ((i : ℕ) (d : X) → i < s → i < length xs → p (get_or xs i d) ≡ true) → ((i : ℕ) (d : X) → s ≤ i → i < e → i < length xs → p (get_or xs i d) ≡ false) → ((i : ℕ) (d : X) → e ≤ i → i < length xs → p (get_or xs i d) ≡ true) → filter p xs ≡ take s xs ++ drop e xs
  filter_cut [] zero zero se low mid high = refl
  filter_cut [] zero (suc e) se low mid high = refl
  filter_cut [] (suc s) zero se low mid high = refl
  filter_cut [] (suc s) (suc e) se low mid high = refl
  filter_cut (x ∷ xs) zero zero se low mid high = filter_all (x ∷ xs) (λ i d h. high i d (omega arith) h)
  filter_cut (x ∷ xs) zero (suc e) se low mid high =
      rw (mid 0 x (omega arith) (omega arith) (omega arith)) (filter_cut xs 0 e (omega arith) (λ i d a b. absurd (omega arith)) (λ i d a b l. mid (suc i) d (omega arith) (omega arith) (omega arith)) (λ i d a l. high (suc i) d (omega arith) (omega arith)))
  filter_cut (x ∷ xs) (suc s) zero se low mid high = absurd (omega arith)
  filter_cut (x ∷ xs) (suc s) (suc e) se low mid high =
      rw (low 0 x (omega arith) (omega arith)) (ap (λ ys. x ∷ ys) (filter_cut xs s e (omega arith) (λ i d a l. low (suc i) d (omega arith) (omega arith)) (λ i d a b l. mid (suc i) d (omega arith) (omega arith) (omega arith)) (λ i d a l. high (suc i) d (omega arith) (omega arith))))

pub non_decreasing : (ns : List ℕ) → AllPairs (λ m n. m < n) ns → IsNonDecreasingBy (λ n. n) ns
non_decreasing ns rising i j d le in' =
    elim (cases_lt i j) [
      | inl less ↦ let l = rising i j d less in' in omega arith
      | inr more ↦ let e : i ≡ j = omega arith in subst (λ (k : ℕ). get_or ns i d ≤ get_or ns k d) e (omega arith)
    ]

outside : (above below n : ℕ) → (n ≤ above) ⊎ (below ≤ n) → is_outside above below n ≡ true
outside above below n (inl low) = rw (le-leb n above low) refl
outside above below n (inr high) = rw (le-leb below n high) (elim (leb n above) as (λ b. (b || true) ≡ true) [ true ↦ refl | false ↦ refl ])

-- what is not strictly between the two
pub fixed : (above below start end : ℕ) (ns : List ℕ) → AllWithin (λ n. leb n above ≡ true) ns 0 start → AllWithin (λ n. leb n above ≡ false) ns start (length ns) → AllWithin (λ n. ltb n below ≡ true) ns 0 end → AllWithin (λ n. ltb n below ≡ false) ns end (length ns) → start ≤ end → filter (is_outside above below) ns ≡ take start ns ++ drop end ns
fixed above below start end ns low over under high less =
    filter_cut (is_outside above below) ns start end less
    (λ i d a l. outside above below (get_or ns i d) (inl (leb-true _ _ (low i d (omega arith) a))))
    (λ i d a b l. rw (over i d a l, lt-leb below (get_or ns i d) (ltb-true _ _ (under i d (omega arith) b))) refl)
    (λ i d a l. outside above below (get_or ns i d) (inr (ltb-false _ _ (high i d a l))))

-- there is nothing between the two
pub nothing_between : (above below start end : ℕ) (ns : List ℕ) → AllWithin (λ n. leb n above ≡ true) ns 0 start → AllWithin (λ n. ltb n below ≡ false) ns end (length ns) → end ≤ start → filter (is_outside above below) ns ≡ ns
nothing_between above below start end ns low high less =
    filter_all (is_outside above below) ns (λ i d l. elim (cases_lt i start) [
      | inl a ↦ outside above below (get_or ns i d) (inl (leb-true _ _ (low i d (omega arith) a)))
      | inr b ↦ outside above below (get_or ns i d) (inr (ltb-false _ _ (high i d (omega arith) l)))
    ])

-- ---- the ends of a list that rises
first_below : (n : ℕ) (ns : List ℕ) → AllPairs (λ x y. x < y) (n ∷ ns) → All (λ m. n ≤ m) (n ∷ ns)
first_below n ns rising zero d h = omega arith
first_below n ns rising (suc i) d h = let l = rising 0 (suc i) d (omega arith) h in omega arith

pub least_first : (ns : List ℕ) → AllPairs (λ m n. m < n) ns → IfSome (first_of ns) (λ n. All (λ m. n ≤ m) ns)
least_first [] rising = tt
least_first (n ∷ ns) rising = first_below n ns rising

above_more : (n k : ℕ) (ns : List ℕ) (m : ℕ) → n < k → All (λ x. x ≤ m) (k ∷ ns) → All (λ x. x ≤ m) (n ∷ k ∷ ns)
above_more n k ns m less h zero d l = let a = h 0 d (omega arith) in omega arith
above_more n k ns m less h (suc i) d l = h i d (omega arith)

above_last : (n k : ℕ) (ns : List ℕ) (o : Option ℕ) → n < k → IfSome o (λ m. All (λ x. x ≤ m) (k ∷ ns)) → IfSome o (λ m. All (λ x. x ≤ m) (n ∷ k ∷ ns))
above_last n k ns None less h = tt
above_last n k ns (Some m) less h = above_more n k ns m less h

one_below : (n : ℕ) → All (λ m. m ≤ n) (n ∷ [])
one_below n zero d h = omega arith
one_below n (suc i) d h = absurd (omega arith)

pub greatest_last : (ns : List ℕ) → AllPairs (λ m n. m < n) ns → IfSome (last_of ns) (λ n. All (λ m. m ≤ n) ns)
greatest_last [] rising = tt
greatest_last (n ∷ []) rising = one_below n
greatest_last (n ∷ k ∷ ns) rising =
    above_last n k ns (last_of (k ∷ ns)) (rising 0 1 0 (omega arith) (omega arith)) (greatest_last (k ∷ ns) (λ i j d less h. rising (suc i) (suc j) d (omega arith) (omega arith)))

-- some number of a list that rises passes exactly where the last one does
pub passes_last : (above last : ℕ) (ns : List ℕ) → AllPairs (λ m n. m < n) ns → slice_get ns (length ns - 1) ≡ Some last → nat_lt above last ≡ list_any (nat_lt above) ns
passes_last above last ns rising is =
    elim (cases_lt above last) [
      | inl less ↦ lt-ltb above last less ∙ sym (list_any_at (nat_lt above) ns (length ns - 1) 0 within (ap (nat_lt above) here ∙ lt-ltb above last less))
      | inr more ↦ le-ltb above last more ∙ sym (list_any_none (nat_lt above) ns (λ i d h.
          let top : get_or ns i d ≤ last = elim (cases_lt i (length ns - 1)) [
            | inl before ↦ let l = rising i (length ns - 1) d before within in let e = get_or_default ns (length ns - 1) d 0 within in let last_is = here in omega arith
            | inr after ↦ let e : i ≡ length ns - 1 = omega arith in let f = get_or_default ns i d 0 h in let g = ap (λ k. get_or ns k 0) e in let last_is = here in omega arith
          ] in
          le-ltb above (get_or ns i d) (omega arith)))
    ] where
      within : length ns - 1 < length ns
      within = slice_get_within ns (length ns - 1) last is

      here : get_or ns (length ns - 1) 0 ≡ last
      here = get_or_from_slice_get ns (length ns - 1) last 0 is

there_is_last : (n : ℕ) (ns : List ℕ) → slice_get (n ∷ ns) (length (n ∷ ns) - 1) ≡ None → ⊥
there_is_last n ns h = none-some (get_or (n ∷ ns) (length (n ∷ ns) - 1) 0) (sym h ∙ slice_get-get_or (n ∷ ns) (length (n ∷ ns) - 1) 0 (omega arith))

pub none_passes : (above : ℕ) (ns : List ℕ) → slice_get ns (length ns - 1) ≡ None → list_any (nat_lt above) ns ≡ false
none_passes above [] h = refl
none_passes above (n ∷ ns) h = absurd (there_is_last n ns h)

-- ---- a number among those that rise
pub has_is : (n : ℕ) (ns : List ℕ) (r : Result ℕ ℕ) → AllPairs (λ x y. x < y) ns → IsBinarySearchResult (λ y. nat_cmp y n) ns r → is_ok r ≡ is_in n ns
has_is n ns (Ok i) rising is =
    let at = searched ns n (Ok i) is (λ j k le h. non_decreasing ns rising j k 0 le h) in
    sym (list_any_at (λ m. m == n) ns i 0 at.0 (eq-eqb (get_or ns i 0) n at.1))
has_is n ns (Err i) rising is =
    let at = searched ns n (Err i) is (λ j k le h. non_decreasing ns rising j k 0 le h) in
    sym (list_any_none (λ m. m == n) ns (λ k d h.
    let e = get_or_default ns k d 0 h in
    ne_eqb (get_or ns k d) n (λ same. elim (cases_lt k i) [
      | inl before ↦ absurd (let l = at.1 k before in omega arith)
      | inr after ↦ absurd (let l = at.2 k after h in omega arith)
    ])))
