-- Lists of numbers, and the rising numbers cut off at one of them.
use Rattle.std.proofs.Common.{◌≡◌, ◌⊎◌, ◌<◌, ◌≤◌, ◌++◌, ℕ, suc, zero, nat_lt, Bool, true, false, cond, List, [], ◌∷◌, Option, Some, None, unwrap_or, refl, ap, sym, inl, inr, ◌∙◌, arith}
use Rattle.std.specs.List.{filter}
use Rattle.std.proofs.lemmas.Bool.{le-ltb, lt-ltb, ltb-false, ltb-true, true≢false}
use Rattle.std.proofs.lemmas.List.{append-nil}
use Rattle.std.proofs.lemmas.List.Elements.{filter-append}
use Rattle.policy_epochs.proofs.Members.{In}
use Rattle.policy_epochs.specs.Epochs.{below, last_of, numbers}

-- what is in two lists, one after the other
pub in_append : (xs ys : List ℕ) (x : ℕ) → In (xs ++ ys) x → In xs x ⊎ In ys x
in_append [] ys x h = inr h
in_append (y ∷ xs) ys x (inl is) = inl (inl is)
in_append (y ∷ xs) ys x (inr h) = elim (in_append xs ys x h) [ inl a ↦ inl (inr a) | inr b ↦ inr b ]

pub in_left : (xs ys : List ℕ) (x : ℕ) → In xs x → In (xs ++ ys) x
in_left [] ys x h = absurd h
in_left (y ∷ xs) ys x (inl is) = inl is
in_left (y ∷ xs) ys x (inr h) = inr (in_left xs ys x h)

pub in_right : (xs ys : List ℕ) (x : ℕ) → In ys x → In (xs ++ ys) x
in_right [] ys x h = h
in_right (y ∷ xs) ys x h = inr (in_right xs ys x h)

-- what passes a test
pub from_filter : (p : ℕ → Bool) (xs : List ℕ) (x : ℕ) → In (filter p xs) x → In xs x × (p x ≡ true)
from_filter p [] x h = absurd h
from_filter p (y ∷ ys) x h = by_test (from_filter p ys x) (p y) refl h where
  by_test : (In (filter p ys) x → In ys x × (p x ≡ true)) → (b : Bool) → p y ≡ b → In (cond b (y ∷ filter p ys) (filter p ys)) x → In (y ∷ ys) x × (p x ≡ true)
  by_test more true is (inl here) = (inl here, ap p (sym here) ∙ is)
  by_test more true is (inr there) = let w = more there in (inr w.0, w.1)
  by_test more false is there = let w = more there in (inr w.0, w.1)

pub to_filter : (p : ℕ → Bool) (xs : List ℕ) (x : ℕ) → In xs x → p x ≡ true → In (filter p xs) x
to_filter p [] x h is = absurd h
to_filter p (y ∷ ys) x h is = by_test (λ there. to_filter p ys x there is) (p y) refl h where
  by_test : (In ys x → In (filter p ys) x) → (b : Bool) → p y ≡ b → In (y ∷ ys) x → In (cond b (y ∷ filter p ys) (filter p ys)) x
  by_test more true own (inl here) = inl here
  by_test more true own (inr there) = inr (more there)
  by_test more false own (inl here) = absurd (true≢false (sym is ∙ ap p (sym here) ∙ own))
  by_test more false own (inr there) = more there

-- two tests in either order
pub swap : (p q : ℕ → Bool) (xs : List ℕ) → filter p (filter q xs) ≡ filter q (filter p xs)
swap p q [] = refl
swap p q (x ∷ xs) = by_tests (swap p q xs) (p x) (q x) refl refl where
  by_tests : filter p (filter q xs) ≡ filter q (filter p xs) → (a b : Bool) → p x ≡ a → q x ≡ b → filter p (cond b (x ∷ filter q xs) (filter q xs)) ≡ filter q (cond a (x ∷ filter p xs) (filter p xs))
  by_tests more true true is own = ap (λ v. cond v (x ∷ filter p (filter q xs)) (filter p (filter q xs))) is ∙ ap (λ l. x ∷ l) (more) ∙ sym (ap (λ v. cond v (x ∷ filter q (filter p xs)) (filter q (filter p xs))) own)
  by_tests more true false is own = more ∙ sym (ap (λ v. cond v (x ∷ filter q (filter p xs)) (filter q (filter p xs))) own)
  by_tests more false true is own = ap (λ v. cond v (x ∷ filter p (filter q xs)) (filter p (filter q xs))) is ∙ more
  by_tests more false false is own = more

-- the last member
pub last_push : (xs : List ℕ) (x : ℕ) → last_of (xs ++ x ∷ []) ≡ Some x
last_push [] x = refl
last_push (y ∷ xs) x = ap (λ o. Some (unwrap_or o y)) (last_push xs x)

pub last_none : (xs : List ℕ) (x : ℕ) → last_of xs ≡ None → In xs x → ⊥
last_none [] x is h = h
last_none (y ∷ xs) x is h = cc

pub last_in : (xs : List ℕ) (x : ℕ) → last_of xs ≡ Some x → In xs x
last_in [] x is = absurd cc
last_in (y ∷ xs) x is = by_last (last_in xs x) (last_of xs) refl is where
  by_last : (last_of xs ≡ Some x → In xs x) → (o : Option ℕ) → last_of xs ≡ o → Some (unwrap_or o y) ≡ Some x → In (y ∷ xs) x
  by_last more None was own = inl cc
  by_last more (Some z) was own = inr (more (was ∙ own))

-- the numbers from 1
pub in_numbers : (n x : ℕ) → In (numbers n) x → (1 ≤ x) × (x ≤ n)
in_numbers zero x h = absurd h
in_numbers (suc n) x h = elim (in_append (numbers n) (suc n ∷ []) x h) [
  | inl a ↦ (let w = in_numbers n x a in let l = w.0 in let r = w.1 in (l, omega arith))
  | inr b ↦ elim b [ inl is ↦ (omega arith, omega arith) | inr none ↦ absurd none ]
]

pub to_numbers : (n x : ℕ) → 1 ≤ x → x ≤ n → In (numbers n) x
to_numbers zero x a b = absurd (omega arith)
to_numbers (suc n) x a b = by_test (to_numbers n x a) (nat_lt x (suc n)) refl where
  by_test : (x ≤ n → In (numbers n) x) → (v : Bool) → nat_lt x (suc n) ≡ v → In (numbers n ++ suc n ∷ []) x
  by_test more true is = let lt = ltb-true x (suc n) is in in_left (numbers n) (suc n ∷ []) x (more (omega arith))
  by_test more false is = let le = ltb-false x (suc n) is in in_right (numbers n) (suc n ∷ []) x (inl (omega arith))

-- the numbers below one more than a number are those up to it
whole : (m n : ℕ) → n < m → below m (numbers n) ≡ numbers n
whole m zero h = refl
whole m (suc n) h =
    filter-append (λ i. nat_lt i m) (numbers n) (suc n ∷ [])
    ∙ ap (λ l. l ++ below m (suc n ∷ [])) (whole m n (omega arith))
    ∙ ap (λ b. numbers n ++ cond b (suc n ∷ []) []) (lt-ltb (suc n) m h)

pub cut : (m n : ℕ) → m ≤ n → below (suc m) (numbers n) ≡ numbers m
cut m zero h = let e : m ≡ 0 = omega arith in ap (λ k. below (suc k) (numbers zero)) e ∙ ap numbers (sym e)
cut m (suc n) h = by_test (cut m n) (nat_lt n m) refl where
  by_test : (m ≤ n → below (suc m) (numbers n) ≡ numbers m) → (v : Bool) → nat_lt n m ≡ v → below (suc m) (numbers (suc n)) ≡ numbers m
  by_test more true is = let lt = ltb-true n m is in let e : suc n ≡ m = omega arith in whole (suc m) (suc n) (omega arith) ∙ ap numbers e
  by_test more false is =
      let le = ltb-false n m is in
      filter-append (λ i. nat_lt i (suc m)) (numbers n) (suc n ∷ [])
      ∙ ap (λ b. below (suc m) (numbers n) ++ cond b (suc n ∷ []) []) (le-ltb (suc n) (suc m) (omega arith))
      ∙ append-nil (below (suc m) (numbers n))
      ∙ more le
