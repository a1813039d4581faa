-- The order of ancestors has what is reached by parents, each once.
use Rattle.std.proofs.Common.{◌≡◌, ◌<◌, ◌+◌, ◌++◌, ◌||◌, ℕ, suc, zero, Bool, true, false, cond, List, [], ◌∷◌, length, Option, Some, None, refl, sym, ap, subst, ◌∙◌, arith, ◌⊎◌, inl, inr}
use Rattle.std.specs.Prelude.{slice_get, if◌then◌else◌}
use Rattle.std.specs.List.{AllByRecursion, IsDistinct}
use Rattle.std.specs.Str.{bytes_eq}
use Rattle.std.proofs.lemmas.Bool.{cases_lt, true≢false}
use Rattle.std.proofs.lemmas.List.{length-append}
use Rattle.std.proofs.lemmas.List.Folds.{list_any-append}
use Rattle.std.proofs.lemmas.Slice.Eq.{bytes_eq-Decides}
use Rattle.global_rules.specs.Order.{Parents, after_turn, ancestors, commits, has_id, is_commit, met, parents_or_none, with_id, with_new}
use Rattle.global_rules.specs.Reaching.{IsOrderOfReached, Itself, Parent, Reached}
use Rattle.global_rules.proofs.Order.{met_closed, met_first, met_front, met_suc}
use Rattle.global_rules.proofs.Turns.{has_more}

same_id : (a b : List ℕ) → bytes_eq a b ≡ true → a ≡ b
same_id a b = (bytes_eq-Decides a b).0

is_itself : (a : List ℕ) → bytes_eq a a ≡ true
is_itself a = (bytes_eq-Decides a a).1 refl

or_split : (a b : Bool) → (a || b) ≡ true → (a ≡ true) ⊎ (b ≡ true)
or_split true b e = inl refl
or_split false b e = inr e

or_second : (a b : Bool) → b ≡ true → (a || b) ≡ true
or_second true b e = refl
or_second false b e = e

has_front : (xs ys : List (List ℕ)) (id : List ℕ) → has_id xs id ≡ true → has_id (xs ++ ys) id ≡ true
has_front xs ys id has = has_more xs ys id has

has_end : (xs ys : List (List ℕ)) (id : List ℕ) → has_id ys id ≡ true → has_id (xs ++ ys) id ≡ true
has_end xs ys id has = list_any-append (λ x. bytes_eq x id) xs ys ∙ or_second (has_id xs id) (has_id ys id) has

-- ---- what a turn adds

with_keeps : (xs : List (List ℕ)) (new id : List ℕ) → has_id xs id ≡ true → has_id (with_id xs new) id ≡ true
with_keeps xs new id has = by_test (has_id xs new)
  where
    by_test : (b : Bool) → has_id (if b then xs else xs ++ new ∷ []) id ≡ true
    by_test true = has
    by_test false = has_front xs (new ∷ []) id has

with_has : (xs : List (List ℕ)) (new : List ℕ) → has_id (with_id xs new) new ≡ true
with_has xs new = by_test (has_id xs new) refl
  where
    by_test : (b : Bool) → has_id xs new ≡ b → has_id (if b then xs else xs ++ new ∷ []) new ≡ true
    by_test true is = is
    by_test false is = has_end xs (new ∷ []) new (ap (λ (b : Bool). b || false) (is_itself new))

new_keeps : (xs ids : List (List ℕ)) (id : List ℕ) → has_id xs id ≡ true → has_id (with_new xs ids) id ≡ true
new_keeps xs [] id has = has
new_keeps xs (new ∷ ids) id has = new_keeps (with_id xs new) ids id (with_keeps xs new id has)

new_has : (xs ids : List (List ℕ)) (id : List ℕ) → has_id ids id ≡ true → has_id (with_new xs ids) id ≡ true
new_has xs [] id has = absurd (true≢false (sym has))
new_has xs (new ∷ ids) id has = elim (or_split (bytes_eq new id) (has_id ids id) has) [
  | inl same ↦ new_keeps (with_id xs new) ids id (subst (λ (x : List ℕ). has_id (with_id xs new) x ≡ true) (same_id new id same) (with_has xs new))
  | inr more ↦ new_has (with_id xs new) ids id more
]

-- what is there after a turn was there, or was added
with_from : (xs : List (List ℕ)) (new id : List ℕ) → has_id (with_id xs new) id ≡ true → (has_id xs id ≡ true) ⊎ (new ≡ id)
with_from xs new id has = by_test (has_id xs new) has
  where
    by_test : (b : Bool) → has_id (if b then xs else xs ++ new ∷ []) id ≡ true → (has_id xs id ≡ true) ⊎ (new ≡ id)
    by_test true has = inl has
    by_test false has = elim (or_split (has_id xs id) (bytes_eq new id || false) (sym (list_any-append (λ x. bytes_eq x id) xs (new ∷ [])) ∙ has)) [
      | inl old ↦ inl old
      | inr same ↦ elim (or_split (bytes_eq new id) false same) [ inl is ↦ inr (same_id new id is) | inr bad ↦ absurd (true≢false (sym bad)) ]
    ]

new_from : (xs ids : List (List ℕ)) (id : List ℕ) → has_id (with_new xs ids) id ≡ true → (has_id xs id ≡ true) ⊎ (has_id ids id ≡ true)
new_from xs [] id has = inl has
new_from xs (new ∷ ids) id has = elim (new_from (with_id xs new) ids id has) [
  | inr more ↦ inr (or_second (bytes_eq new id) (has_id ids id) more)
  | inl there ↦ elim (with_from xs new id there) [
    | inl old ↦ inl old
    | inr same ↦ inr (ap (λ (b : Bool). b || has_id ids id) ((bytes_eq-Decides new id).1 same))
  ]
]

-- ---- places

has_at : (xs : List (List ℕ)) (id : List ℕ) (n : ℕ) → slice_get xs n ≡ Some id → has_id xs id ≡ true
has_at [] id n e = absurd (cc e)
has_at (x ∷ xs) id zero e = let same : x ≡ id = cc e in ap (λ (b : Bool). b || has_id xs id) ((bytes_eq-Decides x id).1 same)
has_at (x ∷ xs) id (suc n) e = or_second (bytes_eq x id) (has_id xs id) (has_at xs id n e)

place_of : (xs : List (List ℕ)) (id : List ℕ) → has_id xs id ≡ true → (n : ℕ) × (slice_get xs n ≡ Some id) × (n < length xs)
place_of [] id has = absurd (true≢false (sym has))
place_of (x ∷ xs) id has = elim (or_split (bytes_eq x id) (has_id xs id) has) [
  | inl same ↦ (0, ap Some (same_id x id same), omega arith)
  | inr more ↦ let at = place_of xs id more in (suc at.0, at.1, (let less = at.2 in omega (arith, less)))
]

get_front : (xs ys : List (List ℕ)) (n : ℕ) → n < length xs → slice_get (xs ++ ys) n ≡ slice_get xs n
get_front [] ys n less = absurd (omega (arith, less))
get_front (x ∷ xs) ys zero less = refl
get_front (x ∷ xs) ys (suc n) less = get_front xs ys n (omega (arith, less))

commit_from : (parents : Parents) (xs : List (List ℕ)) (id : List ℕ) → has_id (commits parents xs) id ≡ true → (has_id xs id ≡ true) × (is_commit parents id ≡ true)
commit_from parents [] id has = absurd (true≢false (sym has))
commit_from parents (x ∷ xs) id has = by_test (is_commit parents x) refl (commit_from parents xs id) has
  where
    by_test : (b : Bool) → is_commit parents x ≡ b → (has_id (commits parents xs) id ≡ true → (has_id xs id ≡ true) × (is_commit parents id ≡ true))
        → has_id (cond b (x ∷ commits parents xs) (commits parents xs)) id ≡ true → ((bytes_eq x id || has_id xs id) ≡ true) × (is_commit parents id ≡ true)
    by_test true is next has = elim (or_split (bytes_eq x id) (has_id (commits parents xs) id) has) [
      | inl same ↦ (ap (λ (b : Bool). b || has_id xs id) same, subst (λ (y : List ℕ). is_commit parents y ≡ true) (same_id x id same) is)
      | inr more ↦ (or_second (bytes_eq x id) (has_id xs id) (next more).0, (next more).1)
    ]
    by_test false is next has = (or_second (bytes_eq x id) (has_id xs id) (next has).0, (next has).1)

commit_to : (parents : Parents) (xs : List (List ℕ)) (id : List ℕ) → has_id xs id ≡ true → is_commit parents id ≡ true → has_id (commits parents xs) id ≡ true
commit_to parents [] id has is = has
commit_to parents (x ∷ xs) id has is = elim (or_split (bytes_eq x id) (has_id xs id) has) [
  | inl same ↦ first (is_commit parents x) (subst (λ (y : List ℕ). is_commit parents y ≡ true) (sym (same_id x id same)) is) same
  | inr more ↦ rest (is_commit parents x) (commit_to parents xs id more is)
]
  where
    first : (b : Bool) → b ≡ true → bytes_eq x id ≡ true → has_id (cond b (x ∷ commits parents xs) (commits parents xs)) id ≡ true
    first true e same = ap (λ (b : Bool). b || has_id (commits parents xs) id) same
    first false e same = absurd (true≢false (sym e))

    rest : (b : Bool) → has_id (commits parents xs) id ≡ true → has_id (cond b (x ∷ commits parents xs) (commits parents xs)) id ≡ true
    rest true has = or_second (bytes_eq x id) (has_id (commits parents xs) id) has
    rest false has = has

-- ---- each once

or_none : (a b : Bool) → (a || b) ≡ false → (a ≡ false) × (b ≡ false)
or_none true b e = absurd (true≢false e)
or_none false b e = (refl, e)

others_push : (x new : List ℕ) (ys : List (List ℕ)) → AllByRecursion (λ y. bytes_eq x y ≡ false) ys → bytes_eq x new ≡ false → AllByRecursion (λ y. bytes_eq x y ≡ false) (ys ++ new ∷ [])
others_push x new [] all other = (other, tt)
others_push x new (y ∷ ys) all other = (all.0, others_push x new ys all.1 other)

distinct_push : (xs : List (List ℕ)) (new : List ℕ) → IsDistinct bytes_eq xs → has_id xs new ≡ false → IsDistinct bytes_eq (xs ++ new ∷ [])
unfolding IsDistinct
distinct_push [] new distinct none = (tt, tt)
distinct_push (x ∷ xs) new distinct none =
    let parts = or_none (bytes_eq x new) (has_id xs new) none in
    (others_push x new xs distinct.0 parts.0, distinct_push xs new distinct.1 parts.1)

distinct_with : (xs : List (List ℕ)) (new : List ℕ) → IsDistinct bytes_eq xs → IsDistinct bytes_eq (with_id xs new)
distinct_with xs new distinct = by_test (has_id xs new) refl
  where
    by_test : (b : Bool) → has_id xs new ≡ b → IsDistinct bytes_eq (if b then xs else xs ++ new ∷ [])
    by_test true is = distinct
    by_test false is = distinct_push xs new distinct is

distinct_new : (xs ids : List (List ℕ)) → IsDistinct bytes_eq xs → IsDistinct bytes_eq (with_new xs ids)
distinct_new xs [] distinct = distinct
distinct_new xs (id ∷ ids) distinct = distinct_new (with_id xs id) ids (distinct_with xs id distinct)

module _ (parents : Parents) (root : List ℕ) where
  -- what is met is reached
  met_reached : (n : ℕ) (id : List ℕ) → has_id (met parents root n) id ≡ true → Reached parents root id
  met_reached zero id has =
      elim (or_split (bytes_eq root id) false (sym (ap (λ (xs : List (List ℕ)). has_id xs id) (met_first parents root)) ∙ has)) [
        | inl same ↦ subst (Reached parents root) (same_id root id same) Itself
        | inr bad ↦ absurd (true≢false (sym bad))
      ]
  met_reached (suc n) id has =
      by_turn (slice_get (met parents root n) n) refl (met_reached n) (sym (ap (λ (xs : List (List ℕ)). has_id xs id) (met_suc parents root n)) ∙ has)
    where
      by_turn : (turn : Option (List ℕ)) → slice_get (met parents root n) n ≡ turn
          → ((x : List ℕ) → has_id (met parents root n) x ≡ true → Reached parents root x)
          → has_id (after_turn parents (met parents root n) turn) id ≡ true → Reached parents root id
      by_turn None is before has = before id has
      by_turn (Some x) is before has = by_parents (parents x) refl has
        where
          by_parents : (found : Option (List (List ℕ))) → parents x ≡ found → has_id (with_new (met parents root n) (parents_or_none found)) id ≡ true → Reached parents root id
          by_parents None none has = before id has
          by_parents (Some ids) some has = elim (new_from (met parents root n) ids id has) [
            | inl old ↦ before id old
            | inr new ↦ Parent x id ids (before x (has_at (met parents root n) x n is)) some new
          ]

  -- an id that is met has its turn
  turn_of : (n : ℕ) (id : List ℕ) → has_id (met parents root n) id ≡ true → (k : ℕ) × (slice_get (met parents root k) k ≡ Some id)
  turn_of n id has =
      let at = place_of (met parents root n) id has in
      let k = at.0 in
      let more = met_front parents root n k in
      let later : slice_get (met parents root (k + n)) k ≡ Some id =
      ap (λ (xs : List (List ℕ)). slice_get xs k) more.1 ∙ get_front (met parents root n) more.0 k at.2 ∙ at.1 in
      let swap : k + n ≡ n + k = omega arith in
      let long : k < length (met parents root (n + k)) =
      (let e = ap length (ap (met parents root) (sym swap) ∙ more.1) ∙ length-append (met parents root n) more.0 in let less = at.2 in omega (arith, e, less)) in
      let front = met_front parents root k n in
      (k, by_size k n (sym (ap (λ (m : ℕ). slice_get (met parents root m) k) swap) ∙ later) long front.0 front.1)
    where
      by_size : (k m : ℕ) → slice_get (met parents root (m + k)) k ≡ Some id → k < length (met parents root (m + k)) → (rest : List (List ℕ))
          → met parents root (m + k) ≡ met parents root k ++ rest → slice_get (met parents root k) k ≡ Some id
      by_size k m later long rest front = elim (cases_lt k (length (met parents root k))) [
        | inl less ↦ sym (get_front (met parents root k) rest k less) ∙ sym (ap (λ (xs : List (List ℕ)). slice_get xs k) front) ∙ later
        | inr past ↦ (let e = ap length (met_closed parents root k m past) in absurd (omega (arith, e, long, past)))
      ]

  -- what is reached is met
  reached_met : (id : List ℕ) → Reached parents root id → (n : ℕ) × (has_id (met parents root n) id ≡ true)
  reached_met id Itself = (0, ap (λ (xs : List (List ℕ)). has_id xs root) (met_first parents root) ∙ ap (λ (b : Bool). b || false) (is_itself root))
  reached_met id (Parent x parent ids before some has) =
      let old = reached_met x before in
      let turn = turn_of old.0 x old.1 in
      let step : met parents root (suc turn.0) ≡ with_new (met parents root turn.0) ids =
      met_suc parents root turn.0 ∙ ap (after_turn parents (met parents root turn.0)) turn.1
      ∙ ap (λ (o : Option (List (List ℕ))). with_new (met parents root turn.0) (parents_or_none o)) some in
      (suc turn.0, ap (λ (xs : List (List ℕ)). has_id xs parent) step ∙ new_has (met parents root turn.0) ids parent has)

  all_reached : (id : List ℕ) → ((n : ℕ) × (has_id (ancestors parents root n) id ≡ true)) → Reached parents root id × (is_commit parents id ≡ true)
  all_reached id has = let parts = commit_from parents (met parents root has.0) id has.1 in (met_reached has.0 id parts.0, parts.1)

  all_met : (id : List ℕ) → Reached parents root id × (is_commit parents id ≡ true) → (n : ℕ) × (has_id (ancestors parents root n) id ≡ true)
  all_met id reached = let old = reached_met id reached.0 in (old.0, commit_to parents (met parents root old.0) id old.1 reached.1)

  turn_distinct : (xs : List (List ℕ)) (turn : Option (List ℕ)) → IsDistinct bytes_eq xs → IsDistinct bytes_eq (after_turn parents xs turn)
  turn_distinct xs None distinct = distinct
  turn_distinct xs (Some id) distinct = distinct_new xs (parents_or_none (parents id)) distinct

  met_distinct : (n : ℕ) → IsDistinct bytes_eq (met parents root n)
  unfolding IsDistinct
  met_distinct zero = subst (IsDistinct bytes_eq) (sym (met_first parents root)) (tt, tt)
  met_distinct (suc n) =
      subst (IsDistinct bytes_eq) (sym (met_suc parents root n)) (turn_distinct (met parents root n) (slice_get (met parents root n) n) (met_distinct n))

  pub order_of_reached : IsOrderOfReached parents root
  order_of_reached = record { all = λ id. (all_reached id, all_met id); once = met_distinct }
