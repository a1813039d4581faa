-- A walk along a chain: one step further, and as each caller takes it.
use Rattle.std.proofs.Common.{◌≡◌, ℕ, suc, ◌+◌, ◌-◌, ◌<◌, ◌≤◌, List, length, arith, refl, ap, sym, ◌∙◌}
use Prim.Native.Nat as Nat
use Rattle.sha2.proofs.Facts256.{length-sha256}
use Rattle.sha256_lanes.specs.Chain.{walked}
use Rattle.lmots.specs.Chain.{step, steps}

pub steps_next : (i : List ℕ) (q chain a b : ℕ) (x : List ℕ) → a < b
    → steps i q chain a (b - a) x ≡ steps i q chain (a + 1) (b - (a + 1)) (step i q chain a x)
unfolding walked
steps_next i q chain a b x lt =
    let one : b - a ≡ suc (b - (a + 1)) = omega arith in
    rw one refl

pub steps-first : (i : List ℕ) (q chain a n : ℕ) (x : List ℕ) → steps i q chain (a + 1) n (step i q chain a x) ≡ steps i q chain a (suc n) x
unfolding walked
steps-first i q chain a n x = refl

pub steps-none : (i : List ℕ) (q chain a : ℕ) (x : List ℕ) → steps i q chain a 0 x ≡ x
unfolding walked
steps-none i q chain a x = refl

pub steps_none : (i : List ℕ) (q chain a b : ℕ) (x : List ℕ) → b ≡ a → steps i q chain a (b - a) x ≡ x
unfolding walked
steps_none i q chain a b x same =
    let none : b - a ≡ 0 = omega arith in
    rw none refl

pub steps-steps : (i : List ℕ) (q chain a m n : ℕ) (x : List ℕ)
    → steps i q chain (a + m) n (steps i q chain a m x) ≡ steps i q chain a (m + n) x
unfolding walked
steps-steps i q chain a Nat.zero n x =
    let same : a + 0 ≡ a = omega arith in
    let count : 0 + n ≡ n = omega arith in
    ap (λ b. steps i q chain b n x) same ∙ ap (λ k. steps i q chain a k x) (sym count)
steps-steps i q chain a (suc m) n x =
    let y : List ℕ = step i q chain a x in
    let place : a + suc m ≡ a + 1 + m = omega arith in
    let count : suc m + n ≡ suc (m + n) = omega arith in
    ap (λ b. steps i q chain b n (steps i q chain (a + 1) m y)) place ∙ steps-steps i q chain (a + 1) m n y
    ∙ ap (λ k. steps i q chain a k x) (sym count)

-- a walk may rest on its way
pub steps_from : (i : List ℕ) (q chain a p b : ℕ) (x : List ℕ) → a ≤ p → p ≤ b
    → steps i q chain p (b - p) (steps i q chain a (p - a) x) ≡ steps i q chain a (b - a) x
steps_from i q chain a p b x low high =
    let place : p ≡ a + (p - a) = omega arith in
    let count : (p - a) + (b - p) ≡ b - a = omega arith in
    ap (λ k. steps i q chain k (b - p) (steps i q chain a (p - a) x)) place ∙ steps-steps i q chain a (p - a) (b - p) x
    ∙ ap (λ k. steps i q chain a k x) count

-- a value of a chain has 32 bytes
pub length-steps : (i : List ℕ) (q chain a n : ℕ) (x : List ℕ) → length x ≡ 32 → length (steps i q chain a n x) ≡ 32
unfolding walked
length-steps i q chain a Nat.zero x long = long
length-steps i q chain a (suc n) x long = length-steps i q chain (a + 1) n (step i q chain a x) (length-sha256 _)
