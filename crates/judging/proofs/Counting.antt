-- The numbers from 1 to n, tested and filtered.
use Rattle.std.proofs.Common.{◌≡◌, ◌⊎◌, ◌&&◌, ◌||◌, ◌<◌, ◌≤◌, ◌++◌, ℕ, suc, zero, Bool, true, false, cond, List, [], ◌∷◌, Some, None, map, refl, ap, sym, inl, inr, ◌∙◌, arith}
use Rattle.std.specs.List.{filter, list_any}
use Rattle.std.proofs.lemmas.Bool.{cases_Bool, cases_eq, true≢false}
use Rattle.std.proofs.lemmas.List.{append-nil, map-append}
use Rattle.std.proofs.lemmas.List.Elements.{filter-append}
use Rattle.std.proofs.lemmas.List.Folds.{list_any-append}
use Rattle.recovery.specs.Lanes.{first_of, last_of}
use Rattle.judging.specs.Logs.{numbers}

or_right : (b : Bool) → (b || true) ≡ true
or_right true = refl
or_right false = refl

or_false : (b : Bool) → (b || false) ≡ b
or_false true = refl
or_false false = refl

pub any_suc : (p : ℕ → Bool) (n : ℕ) → list_any p (numbers (suc n)) ≡ (list_any p (numbers n) || p (suc n))
any_suc p n = list_any-append p (numbers n) (suc n ∷ []) ∙ ap (λ b. list_any p (numbers n) || b) (or_false (p (suc n)))

pub any_same : (p q : ℕ → Bool) (n : ℕ) → ((i : ℕ) → 0 < i → i ≤ n → p i ≡ q i) → list_any p (numbers n) ≡ list_any q (numbers n)
any_same p q zero h = refl
any_same p q (suc n) h =
    any_suc p n ∙ ap (λ b. b || p (suc n)) (any_same p q n (λ i a b. h i a (omega arith))) ∙ ap (λ b. list_any q (numbers n) || b) (h (suc n) (omega arith) (omega arith)) ∙ sym (any_suc q n)

pub any_none : (p : ℕ → Bool) (n : ℕ) → ((i : ℕ) → 0 < i → i ≤ n → p i ≡ false) → list_any p (numbers n) ≡ false
any_none p zero h = refl
any_none p (suc n) h =
    any_suc p n ∙ ap (λ b. b || p (suc n)) (any_none p n (λ i a b. h i a (omega arith))) ∙ h (suc n) (omega arith) (omega arith)

pub some_number : (p : ℕ → Bool) (n : ℕ) → list_any p (numbers n) ≡ true → (i : ℕ) × (0 < i) × (i ≤ n) × (p i ≡ true)
some_number p zero h = absurd (true≢false (sym h))
some_number p (suc n) h =
    elim (cases_Bool (list_any p (numbers n))) [
      | inl is ↦ let w = some_number p n is in (w.0, w.1, let l = w.2 in omega arith, w.3)
      | inr isnt ↦ (suc n, omega arith, omega arith, sym (ap (λ b. b || p (suc n)) isnt) ∙ sym (any_suc p n) ∙ h)
    ]

pub number_some : (p : ℕ → Bool) (n i : ℕ) → 0 < i → i ≤ n → p i ≡ true → list_any p (numbers n) ≡ true
number_some p zero i a b h = absurd (omega arith)
number_some p (suc n) i a b h =
    elim (cases_eq i (suc n)) [
      | inl is ↦ any_suc p n ∙ ap (λ c. list_any p (numbers n) || c) (ap p (sym is) ∙ h) ∙ or_right (list_any p (numbers n))
      | inr isnt ↦ any_suc p n ∙ ap (λ c. c || p (suc n)) (number_some p n i a (omega arith) h)
    ]

-- ---- filters
pub filter_suc : (p : ℕ → Bool) (n : ℕ) → filter p (numbers (suc n)) ≡ filter p (numbers n) ++ cond (p (suc n)) (suc n ∷ []) []
filter_suc p n = filter-append p (numbers n) (suc n ∷ [])

pub filter_same : (p q : ℕ → Bool) (n : ℕ) → ((i : ℕ) → 0 < i → i ≤ n → p i ≡ q i) → filter p (numbers n) ≡ filter q (numbers n)
filter_same p q zero h = refl
filter_same p q (suc n) h =
    filter_suc p n ∙ ap (λ xs. xs ++ cond (p (suc n)) (suc n ∷ []) []) (filter_same p q n (λ i a b. h i a (omega arith)))
    ∙ ap (λ b. filter q (numbers n) ++ cond b (suc n ∷ []) []) (h (suc n) (omega arith) (omega arith)) ∙ sym (filter_suc q n)

filter_cond : {X : Type 0} (q : X → Bool) (b : Bool) (x : X) (xs : List X) → filter q (cond b (x ∷ xs) xs) ≡ cond (b && q x) (x ∷ filter q xs) (filter q xs)
filter_cond q true x xs = refl
filter_cond q false x xs = refl

pub filter_twice : {X : Type 0} (p q : X → Bool) (xs : List X) → filter q (filter p xs) ≡ filter (λ x. p x && q x) xs
filter_twice p q [] = refl
filter_twice p q (x ∷ xs) = filter_cond q (p x) x (filter p xs) ∙ ap (λ ys. cond (p x && q x) (x ∷ ys) ys) (filter_twice p q xs)

-- ---- the ends of a filter
last_push : (ns : List ℕ) (n : ℕ) → last_of (ns ++ n ∷ []) ≡ Some n
last_push [] n = refl
last_push (m ∷ []) n = refl
last_push (m ∷ k ∷ ns) n = last_push (k ∷ ns) n

pub last_number : (p : ℕ → Bool) (n i : ℕ) → last_of (filter p (numbers n)) ≡ Some i → (0 < i) × (i ≤ n) × (p i ≡ true) × ((j : ℕ) → i < j → j ≤ n → p j ≡ false)
last_number p zero i h = absurd (let clash : None ≡ Some i = h in cc)
last_number p (suc n) i h =
    elim (cases_Bool (p (suc n))) [
      | inl is ↦
          let e : last_of (filter p (numbers (suc n))) ≡ Some (suc n) = ap last_of (filter_suc p n ∙ ap (λ b. filter p (numbers n) ++ cond b (suc n ∷ []) []) is) ∙ last_push (filter p (numbers n)) (suc n) in
          let same : Some (suc n) ≡ Some i = sym e ∙ h in
          let at : suc n ≡ i = cc in
          (omega arith, omega arith, ap p (sym at) ∙ is, λ j a b. absurd (omega arith))
      | inr isnt ↦
          let e : filter p (numbers (suc n)) ≡ filter p (numbers n) = filter_suc p n ∙ ap (λ b. filter p (numbers n) ++ cond b (suc n ∷ []) []) isnt ∙ append-nil (filter p (numbers n)) in
          let w = last_number p n i (ap last_of (sym e) ∙ h) in
          (w.0, let l = w.1 in omega arith, w.2, λ j a b. elim (cases_eq j (suc n)) [ inl is ↦ ap p is ∙ isnt | inr other ↦ w.3 j a (omega arith) ])
    ]

pub no_last : (p : ℕ → Bool) (n : ℕ) → last_of (filter p (numbers n)) ≡ None → (j : ℕ) → 0 < j → j ≤ n → p j ≡ false
no_last p zero h j a b = absurd (omega arith)
no_last p (suc n) h j a b =
    elim (cases_Bool (p (suc n))) [
      | inl is ↦
          let e : last_of (filter p (numbers (suc n))) ≡ Some (suc n) = ap last_of (filter_suc p n ∙ ap (λ b. filter p (numbers n) ++ cond b (suc n ∷ []) []) is) ∙ last_push (filter p (numbers n)) (suc n) in
          absurd (let clash : None ≡ Some (suc n) = sym h ∙ e in cc)
      | inr isnt ↦
          let e : filter p (numbers (suc n)) ≡ filter p (numbers n) = filter_suc p n ∙ ap (λ b. filter p (numbers n) ++ cond b (suc n ∷ []) []) isnt ∙ append-nil (filter p (numbers n)) in
          elim (cases_eq j (suc n)) [ inl is ↦ ap p is ∙ isnt | inr other ↦ no_last p n (ap last_of (sym e) ∙ h) j a (omega arith) ]
    ]

first_push : (ns more : List ℕ) (i : ℕ) → first_of ns ≡ Some i → first_of (ns ++ more) ≡ Some i
first_push [] more i h = absurd (let clash : None ≡ Some i = h in cc)
first_push (n ∷ ns) more i h = h

first_none : (ns : List ℕ) → first_of ns ≡ None → ns ≡ []
first_none [] h = refl
first_none (n ∷ ns) h = absurd (let clash : Some n ≡ None = h in cc)

first_cases : (ns : List ℕ) → ((i : ℕ) × (first_of ns ≡ Some i)) ⊎ (ns ≡ [])
first_cases [] = inr refl
first_cases (n ∷ ns) = inl (n, refl)

pub no_first : (p : ℕ → Bool) (n : ℕ) → first_of (filter p (numbers n)) ≡ None → (j : ℕ) → 0 < j → j ≤ n → p j ≡ false
no_first p n h = no_last p n (ap last_of (first_none (filter p (numbers n)) h))

pub first_number : (p : ℕ → Bool) (n i : ℕ) → first_of (filter p (numbers n)) ≡ Some i → (0 < i) × (i ≤ n) × (p i ≡ true) × ((j : ℕ) → 0 < j → j < i → p j ≡ false)
first_number p zero i h = absurd (let clash : None ≡ Some i = h in cc)
first_number p (suc n) i h =
    elim (first_cases (filter p (numbers n))) [
      | inl (k, is) ↦
          let e : first_of (filter p (numbers (suc n))) ≡ Some k = ap first_of (filter_suc p n) ∙ first_push (filter p (numbers n)) (cond (p (suc n)) (suc n ∷ []) []) k is in
          let same : Some k ≡ Some i = sym e ∙ h in
          let at : k ≡ i = cc in
          let w = first_number p n i (is ∙ ap Some at) in
          (w.0, let l = w.1 in omega arith, w.2, w.3)
      | inr none ↦
          let below = no_first p n (ap first_of none) in
          elim (cases_Bool (p (suc n))) [
            | inl is ↦
                let e : first_of (filter p (numbers (suc n))) ≡ Some (suc n) = ap first_of (filter_suc p n ∙ ap (λ b. filter p (numbers n) ++ cond b (suc n ∷ []) []) is ∙ ap (λ xs. xs ++ suc n ∷ []) none) in
                let same : Some (suc n) ≡ Some i = sym e ∙ h in
                let at : suc n ≡ i = cc in
                (omega arith, omega arith, ap p (sym at) ∙ is, λ j a b. below j a (omega arith))
            | inr isnt ↦
                let e : first_of (filter p (numbers (suc n))) ≡ None = ap first_of (filter_suc p n ∙ ap (λ b. filter p (numbers n) ++ cond b (suc n ∷ []) []) isnt ∙ ap (λ xs. xs ++ []) none) in
                absurd (let clash : None ≡ Some i = sym e ∙ h in cc)
          ]
    ]

-- ---- maps
pub map_suc : {X : Type 0} (f : ℕ → X) (n : ℕ) → map f (numbers (suc n)) ≡ map f (numbers n) ++ f (suc n) ∷ []
map_suc f n = map-append f (numbers n) (suc n ∷ [])

pub map_same : {X : Type 0} (f g : ℕ → X) (n : ℕ) → ((i : ℕ) → 0 < i → i ≤ n → f i ≡ g i) → map f (numbers n) ≡ map g (numbers n)
map_same f g zero h = refl
map_same f g (suc n) h =
    map_suc f n ∙ ap (λ xs. xs ++ f (suc n) ∷ []) (map_same f g n (λ i a b. h i a (omega arith))) ∙ ap (λ x. map g (numbers n) ++ x ∷ []) (h (suc n) (omega arith) (omega arith)) ∙ sym (map_suc g n)
