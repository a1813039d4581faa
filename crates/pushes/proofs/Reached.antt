-- A walk visits what is reached by names, each once.
use Rattle.std.proofs.Common.{◌≡◌, ◌≢◌, ℕ, zero, suc, Bool, true, false, ◌||◌, List, [], ◌∷◌, ◌++◌, inl, inr, refl, sym, ap, subst, ◌∙◌}
use Rattle.std.specs.Prelude.{◌⊎◌, if◌then◌else◌}
use Rattle.std.specs.List.{AllByRecursion, IsDistinct}
use Rattle.std.specs.Str.{bytes_eq}
use Rattle.std.proofs.lemmas.Bool.{true≢false}
use Rattle.std.proofs.lemmas.List.Folds.{list_any-append}
use Rattle.std.proofs.lemmas.Slice.Eq.{bytes_eq-Decides}
use Rattle.git_object.specs.Ids.{zeros}
use Rattle.git_object.specs.Repository.{Repository}
use Rattle.pushes.specs.Needing.{Walk, after, has, is_done, next_at}
use Rattle.pushes.specs.Reached.{AreReachedApart, IsReached, Itself, Named, Reached, WalkReaches}
use Rattle.pushes.specs.Reaching.{AreReached, names_kept}

-- ---- ids in lists

is_same : (a b : List ℕ) → bytes_eq a b ≡ true → a ≡ b
is_same a b = (bytes_eq-Decides a b).0

pub is_itself : (a : List ℕ) → bytes_eq a a ≡ true
is_itself a = (bytes_eq-Decides a a).1 refl

or_split : (a b : Bool) → (a || b) ≡ true → (a ≡ true) ⊎ (b ≡ true)
or_split true b e = inl refl
or_split false b e = inr e

pub or_first : (a b : Bool) → a ≡ true → (a || b) ≡ true
or_first a b e = ap (λ (c : Bool). c || b) e

or_second : (a b : Bool) → b ≡ true → (a || b) ≡ true
or_second true b e = refl
or_second false b e = e

or_none : (a b : Bool) → (a || b) ≡ false → (a ≡ false) × (b ≡ false)
or_none true b e = absurd (true≢false e)
or_none false b e = (refl, e)

has_both : (xs ys : List (List ℕ)) (id : List ℕ) → has (xs ++ ys) id ≡ (has xs id || has ys id)
has_both xs ys id = list_any-append (λ (x : List ℕ). bytes_eq x id) xs ys

pub has_split : (xs ys : List (List ℕ)) (id : List ℕ) → has (xs ++ ys) id ≡ true → (has xs id ≡ true) ⊎ (has ys id ≡ true)
has_split xs ys id e = or_split (has xs id) (has ys id) (sym (has_both xs ys id) ∙ e)

pub has_front : (xs ys : List (List ℕ)) (id : List ℕ) → has xs id ≡ true → has (xs ++ ys) id ≡ true
has_front xs ys id e = has_both xs ys id ∙ or_first (has xs id) (has ys id) e

has_end : (xs ys : List (List ℕ)) (id : List ℕ) → has ys id ≡ true → has (xs ++ ys) id ≡ true
has_end xs ys id e = has_both xs ys id ∙ or_second (has xs id) (has ys id) e

-- an id is the one alone, or stands behind it
has_first : (x : List ℕ) (xs : List (List ℕ)) (id : List ℕ) → has (x ∷ xs) id ≡ true → (x ≡ id) ⊎ (has xs id ≡ true)
has_first x xs id e = elim (or_split (bytes_eq x id) (has xs id) e) [ inl same ↦ inl (is_same x id same) | inr more ↦ inr more ]

has_one : (x id : List ℕ) → has (x ∷ []) id ≡ true → x ≡ id
has_one x id e = elim (has_first x [] id e) [ inl same ↦ same | inr more ↦ absurd (true≢false (sym more)) ]

one_has : (id : List ℕ) → has (id ∷ []) id ≡ true
one_has id = or_first (bytes_eq id id) false (is_itself id)

not_true : (b : Bool) → (b ≡ true → ⊥) → b ≡ false
not_true true never = absurd (never refl)
not_true false never = refl

-- ---- each once

others_push : (x new : List ℕ) (ys : List (List ℕ)) → AllByRecursion (λ y. bytes_eq x y ≡ false) ys → bytes_eq x new ≡ false
    → AllByRecursion (λ y. bytes_eq x y ≡ false) (ys ++ new ∷ [])
others_push x new [] all other = (other, tt)
others_push x new (y ∷ ys) all other = (all.0, others_push x new ys all.1 other)

distinct_push : (xs : List (List ℕ)) (new : List ℕ) → IsDistinct bytes_eq xs → has xs new ≡ false → IsDistinct bytes_eq (xs ++ new ∷ [])
unfolding IsDistinct
distinct_push [] new distinct none = (tt, tt)
distinct_push (x ∷ xs) new distinct none =
    let parts = or_none (bytes_eq x new) (has xs new) none in
    (others_push x new xs distinct.0 parts.0, distinct_push xs new distinct.1 parts.1)

others_end : (x id : List ℕ) (xs ys : List (List ℕ)) → AllByRecursion (λ y. bytes_eq x y ≡ false) (xs ++ ys) → has ys id ≡ true → bytes_eq x id ≡ false
others_end x id [] [] all e = absurd (true≢false (sym e))
others_end x id [] (y ∷ ys) all e = elim (has_first y ys id e) [
  | inl same ↦ subst (λ (z : List ℕ). bytes_eq x z ≡ false) same all.0
  | inr more ↦ others_end x id [] ys all.1 more
]
others_end x id (z ∷ xs) ys all e = others_end x id xs ys all.1 e

-- what stands behind is not in front
distinct_parts : (xs ys : List (List ℕ)) (id : List ℕ) → IsDistinct bytes_eq (xs ++ ys) → has ys id ≡ true → has xs id ≡ true → ⊥
unfolding IsDistinct
distinct_parts [] ys id distinct late early = true≢false (sym early)
distinct_parts (x ∷ xs) ys id distinct late early = elim (or_split (bytes_eq x id) (has xs id) early) [
  | inl same ↦ true≢false (sym same ∙ others_end x id xs ys distinct.0 late)
  | inr more ↦ distinct_parts xs ys id distinct.1 late more
]

distinct_end : (xs ys : List (List ℕ)) → IsDistinct bytes_eq (xs ++ ys) → IsDistinct bytes_eq ys
unfolding IsDistinct
distinct_end [] ys distinct = distinct
distinct_end (x ∷ xs) ys distinct = distinct_end xs ys distinct.1

pub distinct_none : IsDistinct bytes_eq []
unfolding IsDistinct
distinct_none = tt

-- ---- the steps of a walk

module _ (names : List ℕ → List (List ℕ)) (root : List ℕ) (known : List (List ℕ)) where
  -- what was visited was known or is reached, what is ahead is reached, and nothing was visited twice
  pub record IsSound (w : Walk) : Type 0 where
    pub visited : (x : List ℕ) → has w.seen x ≡ true → (has known x ≡ true) ⊎ Reached names root x
    pub waiting : (x : List ℕ) → has w.ahead x ≡ true → x ≢ zeros → Reached names root x
    pub once : IsDistinct bytes_eq w.seen

  -- what an object that was visited names was visited or is ahead, and so is the first
  pub record IsClosing (w : Walk) : Type 0 where
    pub first : root ≢ zeros → (has w.seen root ≡ true) ⊎ (has w.ahead root ≡ true)
    pub next : (x y : List ℕ) → has w.seen x ≡ true → has (names x) y ≡ true → y ≢ zeros → (has w.seen y ≡ true) ⊎ (has w.ahead y ≡ true)

  abbrev Chosen : List (List ℕ) → List (List ℕ) → List ℕ → Bool → Walk
  Chosen seen ahead id b = if b then record { seen = seen; ahead = ahead } else record { seen = seen ++ id ∷ []; ahead = names id ++ ahead }

  pub fresh : (seen : List (List ℕ)) (id : List ℕ) → is_done seen id ≡ false → (id ≢ zeros) × (has seen id ≡ false)
  fresh seen id e =
      let parts = or_none (bytes_eq id zeros) (has seen id) e in
      (λ same. true≢false (sym ((bytes_eq-Decides id zeros).1 same) ∙ parts.0), parts.1)

  sound_step : (seen ahead : List (List ℕ)) → IsSound (record { seen = seen; ahead = ahead }) → IsSound (next_at names seen ahead)
  sound_step seen [] s = s
  sound_step seen (id ∷ ahead) s = by_test (is_done seen id) refl
    where
      by_test : (b : Bool) → is_done seen id ≡ b → IsSound (Chosen seen ahead id b)
      by_test true e = record { visited = s.visited; waiting = λ x h. s.waiting x (or_second (bytes_eq id x) (has ahead x) h); once = s.once }
      by_test false e =
          let f = fresh seen id e in
          let here : Reached names root id = s.waiting id (or_first (bytes_eq id id) (has ahead id) (is_itself id)) f.0 in
          record {
            visited = λ x h. elim (has_split seen (id ∷ []) x h) [
              | inl old ↦ s.visited x old
              | inr new ↦ inr (subst (Reached names root) (has_one id x new) here)
            ];
            waiting = λ x h some. elim (has_split (names id) ahead x h) [
              | inl named ↦ Named id x here named some
              | inr old ↦ s.waiting x (or_second (bytes_eq id x) (has ahead x) old) some
            ];
            once = distinct_push seen id s.once f.1;
          }

  closing_step : (seen ahead : List (List ℕ)) → IsClosing (record { seen = seen; ahead = ahead }) → IsClosing (next_at names seen ahead)
  closing_step seen [] c = c
  closing_step seen (id ∷ ahead) c = by_test (is_done seen id) refl
    where
      -- what was visited or was ahead is so still, once the first was visited or passed over
      passed : (y : List ℕ) → is_done seen id ≡ true → y ≢ zeros → ((has seen y ≡ true) ⊎ (has (id ∷ ahead) y ≡ true))
          → (has seen y ≡ true) ⊎ (has ahead y ≡ true)
      passed y e some (inl old) = inl old
      passed y e some (inr there) = elim (has_first id ahead y there) [
        | inl same ↦ elim (or_split (bytes_eq id zeros) (has seen id) e) [
          | inl nothing ↦ absurd (some (sym same ∙ is_same id zeros nothing))
          | inr old ↦ inl (subst (λ (z : List ℕ). has seen z ≡ true) same old)
        ]
        | inr more ↦ inr more
      ]

      gone : (y : List ℕ) → ((has seen y ≡ true) ⊎ (has (id ∷ ahead) y ≡ true)) → (has (seen ++ id ∷ []) y ≡ true) ⊎ (has (names id ++ ahead) y ≡ true)
      gone y (inl old) = inl (has_front seen (id ∷ []) y old)
      gone y (inr there) = elim (has_first id ahead y there) [
        | inl same ↦ inl (has_end seen (id ∷ []) y (subst (λ (z : List ℕ). has (id ∷ []) z ≡ true) same (one_has id)))
        | inr more ↦ inr (has_end (names id) ahead y more)
      ]

      by_test : (b : Bool) → is_done seen id ≡ b → IsClosing (Chosen seen ahead id b)
      by_test true e = record {
        first = λ some. passed root e some (c.first some);
        next = λ x y h named some. passed y e some (c.next x y h named some);
      }
      by_test false e = record {
        first = λ some. gone root (c.first some);
        next = λ x y h named some. elim (has_split seen (id ∷ []) x h) [
          | inl old ↦ gone y (c.next x y old named some)
          | inr new ↦ inr (has_front (names id) ahead y (subst (λ (z : List ℕ). has (names z) y ≡ true) (sym (has_one id x new)) named))
        ];
      }

  pub sound_after : (start : Walk) → IsSound start → (n : ℕ) → IsSound (after names n start)
  sound_after start s zero = s
  sound_after start s (suc n) = let before = sound_after start s n in sound_step (after names n start).seen (after names n start).ahead before

  pub closing_after : (start : Walk) → IsClosing start → (n : ℕ) → IsClosing (after names n start)
  closing_after start c zero = c
  closing_after start c (suc n) = let before = closing_after start c n in closing_step (after names n start).seen (after names n start).ahead before

  -- at the end all that is reached was visited
  pub reached_seen : (seen : List (List ℕ)) → IsClosing (record { seen = seen; ahead = [] }) → (x : List ℕ) → Reached names root x → has seen x ≡ true
  reached_seen seen c x (Itself some) = elim (c.first some) [ inl there ↦ there | inr none ↦ absurd (true≢false (sym none)) ]
  reached_seen seen c x (Named id other before named some) =
      elim (c.next id other (reached_seen seen c id before) named some) [ inl there ↦ there | inr none ↦ absurd (true≢false (sym none)) ]

  -- the walk from the first begins so
  pub sound_start : IsDistinct bytes_eq known → IsSound (record { seen = known; ahead = root ∷ [] })
  sound_start once = record {
    visited = λ x h. inl h;
    waiting = λ x h some. let same = has_one root x h in
        subst (Reached names root) same (Itself (subst (λ (z : List ℕ). z ≢ zeros) (sym same) some));
    once = once;
  }

  pub closing_start : ((x y : List ℕ) → has known x ≡ true → has (names x) y ≡ true → y ≢ zeros → has known y ≡ true)
      → IsClosing (record { seen = known; ahead = root ∷ [] })
  closing_start closed = record { first = λ some. inr (one_has root); next = λ x y h named some. inl (closed x y h named some) }

-- ---- the two walks

module _ (r : Repository) (before target : List ℕ) (ids : List (List ℕ)) (are : AreReached r before target ids) where
  names : List ℕ → List (List ℕ)
  names = names_kept r

  first_sound : IsSound (names_kept r) before [] (record { seen = are.known; ahead = [] })
  first_sound = subst (IsSound (names_kept r) before []) are.from_before.is
      (sound_after (names_kept r) before [] (record { seen = []; ahead = before ∷ [] })
      (sound_start (names_kept r) before [] distinct_none) are.from_before.step)

  first_closing : IsClosing (names_kept r) before [] (record { seen = are.known; ahead = [] })
  first_closing = subst (IsClosing (names_kept r) before []) are.from_before.is
      (closing_after (names_kept r) before [] (record { seen = []; ahead = before ∷ [] })
      (closing_start (names_kept r) before [] (λ x y h named some. absurd (true≢false (sym h)))) are.from_before.step)

  closed : (x y : List ℕ) → has are.known x ≡ true → has (names_kept r x) y ≡ true → y ≢ zeros → has are.known y ≡ true
  closed x y h named some = elim (first_closing.next x y h named some) [ inl there ↦ there | inr none ↦ absurd (true≢false (sym none)) ]

  sound : IsSound (names_kept r) target are.known (record { seen = are.known ++ ids; ahead = [] })
  sound = subst (IsSound (names_kept r) target are.known) are.from_target.is
      (sound_after (names_kept r) target are.known (record { seen = are.known; ahead = target ∷ [] })
      (sound_start (names_kept r) target are.known first_sound.once) are.from_target.step)

  closing : IsClosing (names_kept r) target are.known (record { seen = are.known ++ ids; ahead = [] })
  closing = subst (IsClosing (names_kept r) target are.known) are.from_target.is
      (closing_after (names_kept r) target are.known (record { seen = are.known; ahead = target ∷ [] })
      (closing_start (names_kept r) target are.known closed) are.from_target.step)

  -- what was known is reached from the one before
  pub was_reached : (id : List ℕ) → has are.known id ≡ true → IsReached r before id
  was_reached id h = elim (first_sound.visited id h) [ inl none ↦ absurd (true≢false (sym none)) | inr there ↦ there ]

  -- what is reached from the target was known or is among them
  pub either_way : (id : List ℕ) → IsReached r target id → (has are.known id ≡ true) ⊎ (has ids id ≡ true)
  either_way id there = has_split are.known ids id (reached_seen (names_kept r) target are.known (are.known ++ ids) closing id there)

  from_ids : (id : List ℕ) → has ids id ≡ true → IsReached r target id × (IsReached r before id → ⊥)
  from_ids id h = (
    elim (sound.visited id (has_end are.known ids id h)) [ inl early ↦ absurd (distinct_parts are.known ids id sound.once h early) | inr there ↦ there ],
    λ there. distinct_parts are.known ids id sound.once h (reached_seen (names_kept r) before [] are.known first_closing id there),
  )

  to_ids : (id : List ℕ) → IsReached r target id × (IsReached r before id → ⊥) → has ids id ≡ true
  to_ids id there = elim (either_way id there.0) [ inl early ↦ absurd (there.1 (was_reached id early)) | inr now ↦ now ]

  pub reached_apart : AreReachedApart r before target ids
  reached_apart = record { all = λ id. (from_ids id, to_ids id); once = distinct_end are.known ids sound.once }

pub walk_reaches : WalkReaches
walk_reaches = reached_apart
