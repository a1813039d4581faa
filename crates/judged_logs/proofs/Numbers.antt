-- Filters of the numbers from 1 to n, and their ends.
use Rattle.std.proofs.Common.{◌≡◌, ◌<◌, ◌≤◌, ◌&&◌, ◌++◌, ℕ, suc, zero, Bool, true, false, cond, not, nat_le, nat_lt, List, [], ◌∷◌, Some, None, refl, ap, sym, inl, inr, ◌∙◌, arith}
use Rattle.std.specs.List.{filter}
use Rattle.std.proofs.lemmas.Bool.{cases_eq, cases_lt, le-leb, le-ltb, lt-leb, lt-ltb}
use Rattle.std.proofs.lemmas.List.{append-nil}
use Rattle.recovery.specs.Lanes.{last_of}
use Rattle.judging.specs.Logs.{numbers}
use Rattle.judging.proofs.Counting.{filter_same, filter_suc, filter_twice}

pub last_push : (ns : List ℕ) (n : ℕ) → last_of (ns ++ n ∷ []) ≡ Some n
last_push [] n = refl
last_push (m ∷ []) n = refl
last_push (m ∷ k ∷ ns) n = last_push (k ∷ ns) n

pub no_last : (ns : List ℕ) → last_of ns ≡ None → ns ≡ []
no_last [] h = refl
no_last (n ∷ []) h = absurd (let clash : Some n ≡ None = h in cc)
no_last (m ∷ k ∷ ns) h = absurd (let clash : (k ∷ ns) ≡ [] = no_last (k ∷ ns) h in cc)

pub filter_false : (xs : List ℕ) → filter (λ _. false) xs ≡ []
filter_false [] = refl
filter_false (x ∷ xs) = filter_false xs

-- the numbers above m, up to n, do not pass
pub shorter : (p : ℕ → Bool) (m n : ℕ) → m ≤ n → ((j : ℕ) → m < j → j ≤ n → p j ≡ false) → filter p (numbers n) ≡ filter p (numbers m)
shorter p m zero h none = let e : zero ≡ m = omega arith in ap (λ (k : ℕ). filter p (numbers k)) e
shorter p m (suc n) h none =
    elim (cases_eq m (suc n)) [
      | inl is ↦ ap (λ (k : ℕ). filter p (numbers k)) (sym is)
      | inr other ↦
          filter_suc p n ∙ ap (λ b. filter p (numbers n) ++ cond b (suc n ∷ []) []) (none (suc n) (omega arith) (omega arith)) ∙ append-nil (filter p (numbers n))
          ∙ shorter p m n (omega arith) (λ j a c. none j a (omega arith))
    ]

pub below_is : (i b : ℕ) → not (nat_le b i) ≡ nat_lt i b
below_is i b =
    elim (cases_lt i b) [
      | inl less ↦ ap not (lt-leb b i less) ∙ sym (lt-ltb i b less)
      | inr more ↦ ap not (le-leb b i more) ∙ sym (le-ltb i b more)
    ]

-- none of the numbers below b is from b on
pub none_on : (p : ℕ → Bool) (n b : ℕ) → n < b → filter (nat_le b) (filter p (numbers n)) ≡ []
none_on p n b h =
    filter_twice p (nat_le b) (numbers n)
    ∙ filter_same (λ i. p i && nat_le b i) (λ _. false) n (λ i i0 i1. ap (λ c. p i && c) (lt-leb b i (omega arith)) ∙ and_no (p i))
    ∙ filter_false (numbers n) where
      and_no : (c : Bool) → (c && false) ≡ false
      and_no true = refl
      and_no false = refl
