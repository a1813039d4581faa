-- Two rows of digits, where none of the second is less: the second lacks no more than the first,
-- and as much only where they are equal.
use Rattle.std.proofs.Common.{◌≡◌, ℕ, suc, ◌+◌, ◌-◌, ◌<◌, ◌≤◌, ◌⊎◌, inl, inr, List, arith, add-one, subst}
use Prim.Native.Nat as Nat
use Rattle.std.specs.List.{sum_by}
use Rattle.std.proofs.lemmas.Bool.{cases_lt}
use Rattle.lmots.specs.Digits.{coef, digits}
use Rattle.lmots.proofs.Sums.{lacked_none, lacked_more}

-- the first n digits of the second string are at least those of the first
abbrev pub AllAtLeast : List ℕ → List ℕ → ℕ → ℕ → Type 0
AllAtLeast s t w n = (k : ℕ) → k < n → coef s k w ≤ coef t k w

pub less_or_none : (s t : List ℕ) (w n : ℕ)
    → ((k : ℕ) × (k < n) × (coef t k w < coef s k w)) ⊎ AllAtLeast s t w n
less_or_none s t w Nat.zero = inr (λ k inside. absurd (omega arith))
less_or_none s t w (suc n) =
    elim (less_or_none s t w n) [
      | inl found ↦ inl (found.0, omega arith, found.2)
      | inr none ↦
          elim (cases_lt (coef t n w) (coef s n w)) [
            | inl less ↦ inl (n, omega arith, less)
            | inr not_less ↦ inr (λ k inside.
                elim (cases_lt k n) [
                  | inl below ↦ none k below
                  | inr above ↦ let same : k ≡ n = omega arith in
                      let P : ℕ → Type 0 = λ m. coef s m w ≤ coef t m w in subst P (omega arith) not_less
                ])
          ]
    ]

pub lacks_no_more : (b : ℕ) (s t : List ℕ) (w n : ℕ) → AllAtLeast s t w n
    → sum_by (λ d. b - d) (digits t w n) ≤ sum_by (λ d. b - d) (digits s w n)
lacks_no_more b s t w Nat.zero none = omega (arith, lacked_none b s w, lacked_none b t w)
lacks_no_more b s t w (suc n) none =
    let before = lacks_no_more b s t w n (λ k inside. none k (omega arith)) in
    let last : coef s n w ≤ coef t n w = none n (omega arith) in
    rw (← add-one) (omega (arith, before, last, lacked_more b s w n, lacked_more b t w n))

pub same_digits : (b : ℕ) (s t : List ℕ) (w n : ℕ) → ((k : ℕ) → coef t k w ≤ b) → AllAtLeast s t w n
    → sum_by (λ d. b - d) (digits s w n) ≤ sum_by (λ d. b - d) (digits t w n)
    → (k : ℕ) → k < n → coef s k w ≡ coef t k w
same_digits b s t w Nat.zero low none lacks k inside = absurd (omega arith)
same_digits b s t w (suc n) low none lacks k inside =
    let none_before : AllAtLeast s t w n = λ j below. none j (omega arith) in
    let before = lacks_no_more b s t w n none_before in
    let last : coef s n w ≤ coef t n w = none n (omega arith) in
    let total : sum_by (λ d. b - d) (digits s w (n + 1)) ≤ sum_by (λ d. b - d) (digits t w (n + 1)) = rw add-one lacks in
    let earlier : sum_by (λ d. b - d) (digits s w n) ≤ sum_by (λ d. b - d) (digits t w n) =
    omega (arith, before, last, total, lacked_more b s w n, lacked_more b t w n) in
    let here : coef s n w ≡ coef t n w =
    omega (arith, before, last, total, low n, lacked_more b s w n, lacked_more b t w n) in
    elim (cases_lt k n) [
      | inl below ↦ same_digits b s t w n low none_before earlier k below
      | inr above ↦ let same : n ≡ k = omega arith in
          let P : ℕ → Type 0 = λ m. coef s m w ≡ coef t m w in subst P same here
    ]
