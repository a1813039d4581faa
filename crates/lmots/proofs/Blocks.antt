-- Blocks of 32 bytes, one after another.
use Rattle.std.proofs.Common.{◌≡◌, ℕ, suc, ◌+◌, ◌*◌, ◌<◌, ◌≤◌, List, ◌++◌, length, take, drop, inl, inr, sym, ◌∙◌, ap, subst, refl, arith, length-append, length-drop}
use Prim.Native.Nat as Nat
use Rattle.std.proofs.lemmas.Bool.{cases_lt}
use Rattle.std.proofs.lemmas.List.{drop-append-le, drop_at, take-append-le, take_all}
use Rattle.lmots.specs.Chain.{joined}

-- each of the first n pieces has 32 bytes
abbrev pub AreBlocks : (ℕ → List ℕ) → ℕ → Type 0
AreBlocks z n = (k : ℕ) → k < n → length (z k) ≡ 32

pub length-joined : (z : ℕ → List ℕ) (n : ℕ) → AreBlocks z n → length (joined z n) ≡ 32 * n
unfolding joined
length-joined z Nat.zero long = refl
length-joined z (suc n) long =
    let before = length-joined z n (λ k inside. long k (omega arith)) in
    omega (arith, length-append (joined z n) (z n), before, long n (omega arith))

pub block-joined : (z : ℕ → List ℕ) (n : ℕ) → AreBlocks z n → (k : ℕ) → k < n → take 32 (drop (32 * k) (joined z n)) ≡ z k
unfolding joined
block-joined z Nat.zero long k inside = absurd (omega arith)
block-joined z (suc n) long k inside =
    let before : AreBlocks z n = λ j below. long j (omega arith) in
    let total = length-joined z n before in
    elim (cases_lt k n) [
      | inl below ↦
          let room : 32 + 32 * k ≤ 32 * n = omega arith in
          ap (take 32) (drop-append-le (32 * k) (joined z n) (z n) (omega (arith, total)))
          ∙ take-append-le 32 (drop (32 * k) (joined z n)) (z n) (omega (arith, total, length-drop (32 * k) (joined z n)))
          ∙ block-joined z n before k below
      | inr above ↦
          let last : k ≡ n = omega arith in
          let P : ℕ → Type 0 = λ m. take 32 (drop (32 * m) (joined z n ++ z n)) ≡ z m in
          subst P (sym last) (ap (take 32) (drop_at (joined z n) (z n) (32 * n) total) ∙ take_all 32 (z n) (omega (arith, long n (omega arith))))
    ]

pub joined-same : (y z : ℕ → List ℕ) (n : ℕ) → ((k : ℕ) → k < n → y k ≡ z k) → joined y n ≡ joined z n
unfolding joined
joined-same y z Nat.zero same = refl
joined-same y z (suc n) same =
    ap (λ l. l ++ y n) (joined-same y z n (λ k inside. same k (omega arith))) ∙ ap (λ l. joined z n ++ l) (same n (omega arith))
