-- The walk over needed ids: what a step makes of it, and that it has one answer.
use Rattle.std.proofs.Common.{◌≡◌, ℕ, zero, suc, ◌<◌, ◌≤◌, Bool, true, false, List, [], ◌∷◌, ◌++◌, Option, Some, None, inl, inr, length, reverse, refl, sym, ap, subst, ◌∙◌, arith}
use Rattle.std.specs.Prelude.{◌⊎◌, if◌then◌else◌}
use Rattle.std.proofs.lemmas.Bool.{true≢false}
use Rattle.std.proofs.lemmas.List.{reverse-append}
use Rattle.git_object.specs.Objects.{Pair}
use Rattle.git_object.specs.Repository.{Repository}
use Rattle.pushes.specs.Pushes.{object_in}
use Rattle.pushes.specs.Needing.{HasAll, IsComplete, IsFirst, IsIncomplete, IsNeeded, IsNowhere, NoneBefore, OneAnswer, Visits, Walk, after, is_done, names_in, next_at}

pub tri : (a b : ℕ) → (a < b) ⊎ ((a ≡ b) ⊎ (b < a))
tri zero zero = inr (inl refl)
tri zero (suc b) = inl (omega arith)
tri (suc a) zero = inr (inr (omega arith))
tri (suc a) (suc b) = elim (tri a b) [ inl l ↦ inl (omega (arith, l)) | inr (inl e) ↦ inr (inl (ap suc e)) | inr (inr g) ↦ inr (inr (omega (arith, g))) ]

last_step : (m n : ℕ) → m < suc n → (m < n) ⊎ (m ≡ n)
last_step m n lt = elim (tri m n) [ inl l ↦ inl l | inr (inl e) ↦ inr e | inr (inr g) ↦ absurd (omega (arith, g, lt)) ]

module _ (names : List ℕ → List (List ℕ)) where
  next_ended : (seen ahead : List (List ℕ)) → ahead ≡ [] → (next_at names seen ahead).ahead ≡ []
  next_ended seen [] e = refl
  next_ended seen (x ∷ ahead) e = absurd (cc e)

  stays_ended : (start : Walk) (n m : ℕ) → n ≤ m → (after names n start).ahead ≡ [] → (after names m start).ahead ≡ []
  stays_ended start n zero le e = let same : n ≡ 0 = omega (arith, le) in subst (λ k. (after names k start).ahead ≡ []) same e
  stays_ended start n (suc m) le e = by_case (tri n (suc m)) (λ le'. stays_ended start n m le' e)
    where
      by_case : ((n < suc m) ⊎ ((n ≡ suc m) ⊎ (suc m < n))) → (n ≤ m → (after names m start).ahead ≡ []) → (after names (suc m) start).ahead ≡ []
      by_case (inl lt) before = next_ended (after names m start).seen (after names m start).ahead (before (omega (arith, lt)))
      by_case (inr (inl same)) before = subst (λ k. (after names k start).ahead ≡ []) same e
      by_case (inr (inr gt)) before = absurd (omega (arith, gt, le))

  head_same : (a b : List ℕ) (x y : List (List ℕ)) → a ∷ x ≡ b ∷ y → a ≡ b
  head_same a b x y e = cc

  one_visit : (start : Walk) (n : ℕ) (a b : List ℕ) → Visits names start n a → Visits names start n b → a ≡ b
  one_visit start n a b va vb = head_same a b va.rest vb.rest (sym va.front ∙ vb.front)

  pub one_first : (Missing : List ℕ → Type 0) (start : Walk) (a b : List ℕ) → IsFirst names Missing start a → IsFirst names Missing start b → a ≡ b
  one_first Missing start a b fa fb = elim (tri fa.step fb.step) [
    | inl lt ↦ absurd (fb.before fa.step a lt fa.visits fa.missing)
    | inr (inl same) ↦ one_visit start fb.step a b (subst (λ n. Visits names start n a) same fa.visits) fb.visits
    | inr (inr gt) ↦ absurd (fa.before fb.step b gt fb.visits fb.missing)
  ]

  nothing_in_front : (start : Walk) (n : ℕ) (a : List ℕ) → Visits names start n a → (after names n start).ahead ≡ [] → ⊥
  nothing_in_front start n a v e = let both : a ∷ v.rest ≡ [] = sym v.front ∙ e in absurd (cc both)

  pub never_both : (Missing : List ℕ → Type 0) (start : Walk) (a : List ℕ) → IsFirst names Missing start a → HasAll names Missing start → ⊥
  never_both Missing start a f all = elim (tri f.step all.step) [
    | inl lt ↦ all.none f.step a lt f.visits f.missing
    | inr (inl same) ↦ nothing_in_front start f.step a f.visits (stays_ended start all.step f.step (omega (arith, same)) all.ended)
    | inr (inr gt) ↦ nothing_in_front start f.step a f.visits (stays_ended start all.step f.step (omega (arith, gt)) all.ended)
  ]

pub one_answer : OneAnswer
one_answer = record {
  one = λ objects r start a b. one_first (names_in objects) (IsNowhere objects r) start a b;
  apart = λ objects r start a. never_both (names_in objects) (IsNowhere objects r) start a;
}

-- ---- the steps of a walk whose next id is the last of a list

-- the walk has come so far, and nothing so far is missing
pub record IsAt (objects : List Pair) (content : Option Repository) (start : Walk) (seen ahead : List (List ℕ)) : Type 0 where
  pub step : ℕ
  pub is : after (names_in objects) step start ≡ record { seen = seen; ahead = reverse ahead }
  pub none : (r : Repository) → content ≡ Some r → NoneBefore (names_in objects) (IsNowhere objects r) start step

pub empty : (xs : List (List ℕ)) → length xs ≡ 0 → xs ≡ []
empty [] e = refl
empty (x ∷ xs) e = absurd (omega arith)

reverse_last : (ahead : List (List ℕ)) (id : List ℕ) → reverse (ahead ++ id ∷ []) ≡ id ∷ reverse ahead
reverse_last ahead id = reverse-append ahead (id ∷ [])

module _ (objects : List Pair) (content : Option Repository) (start : Walk) (seen : List (List ℕ)) where
  pub at_start : (ahead : List (List ℕ)) → start ≡ record { seen = seen; ahead = reverse ahead } → IsAt objects content start seen ahead
  at_start ahead is = record { step = zero; is = is; none = λ r told m x lt. absurd (omega (arith, lt)) }

  -- it is told no more than before
  pub still_at : (now : Option Repository) (ahead : List (List ℕ)) → ((r : Repository) → now ≡ Some r → content ≡ Some r) → IsAt objects content start seen ahead → IsAt objects now start seen ahead
  still_at now ahead told at = record { step = at.step; is = at.is; none = λ r t. at.none r (told r t) }

  module _ (ahead : List (List ℕ)) (id : List ℕ) (at : IsAt objects content start seen (ahead ++ id ∷ [])) where
    abbrev names : List ℕ → List (List ℕ)
    names = names_in objects

    here : after names at.step start ≡ record { seen = seen; ahead = id ∷ reverse ahead }
    here = at.is ∙ ap (λ (a : List (List ℕ)). record { seen = seen; ahead = a }) (reverse_last ahead id)

    next_is : after names (suc at.step) start ≡ next_at names seen (id ∷ reverse ahead)
    next_is = ap (λ (w : Walk). next_at names w.seen w.ahead) here

    visited : (x : List ℕ) → Visits names start at.step x → (x ≡ id) × (is_done seen x ≡ false)
    visited x v =
        let front : id ∷ reverse ahead ≡ x ∷ v.rest = sym (ap (λ (w : Walk). w.ahead) here) ∙ v.front in
        (sym (head_same names id x (reverse ahead) v.rest front), ap (λ (w : Walk). is_done w.seen x) (sym here) ∙ v.first)

    abbrev Chosen : Bool → Walk
    Chosen b = if b then record { seen = seen; ahead = reverse ahead } else record { seen = seen ++ id ∷ []; ahead = names id ++ reverse ahead }

    pub skipped : is_done seen id ≡ true → IsAt objects content start seen ahead
    skipped done = record {
      step = suc at.step;
      is = next_is ∙ ap Chosen done;
      none = λ r told m x lt v missing. elim (last_step m at.step lt) [
        | inl before ↦ at.none r told m x before v missing
        | inr same ↦
            let w = visited x (subst (λ k. Visits names start k x) same v) in
            true≢false (sym done ∙ ap (is_done seen) (sym w.0) ∙ w.1)
      ];
    }

    pub went : (ahead' : List (List ℕ)) → is_done seen id ≡ false → ((r : Repository) → content ≡ Some r → IsNowhere objects r id → ⊥) → reverse ahead' ≡ names id ++ reverse ahead
        → IsAt objects content start (seen ++ id ∷ []) ahead'
    went ahead' done there is = record {
      step = suc at.step;
      is = next_is ∙ ap Chosen done ∙ ap (λ (a : List (List ℕ)). record { seen = seen ++ id ∷ []; ahead = a }) (sym is);
      none = λ r told m x lt v missing. elim (last_step m at.step lt) [
        | inl before ↦ at.none r told m x before v missing
        | inr same ↦
            let w = visited x (subst (λ k. Visits names start k x) same v) in
            there r told (subst (IsNowhere objects r) w.0 missing)
      ];
    }

    visits : is_done seen id ≡ false → Visits names start at.step id
    visits done = record {
      rest = reverse ahead;
      front = ap (λ (w : Walk). w.ahead) here;
      first = ap (λ (w : Walk). is_done w.seen id) here ∙ done;
    }

    pub found : is_done seen id ≡ false → (r : Repository) → content ≡ Some r → IsNowhere objects r id → IsIncomplete objects r start id
    found done r told nowhere = record { step = at.step; visits = visits done; missing = nowhere; before = at.none r told }

    pub needed : is_done seen id ≡ false → object_in objects id ≡ None → IsNeeded objects start id
    needed done none = record { step = at.step; visits = visits done; not_pushed = none }

  pub ended : (ahead : List (List ℕ)) → ahead ≡ [] → IsAt objects content start seen ahead → (r : Repository) → content ≡ Some r → IsComplete objects r start
  ended ahead e at r told = record { step = at.step; ended = ap (λ (w : Walk). w.ahead) at.is ∙ ap reverse e; none = at.none r told }
