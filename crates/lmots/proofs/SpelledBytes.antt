-- The digits of a string spell the number that its bytes spell.
use Rattle.std.proofs.Common.{◌≡◌, ℕ, suc, ◌+◌, ◌*◌, ◌/◌, ◌^◌, ◌<◌, List, slice_index, arith, lit<, ◌∙◌, ap, refl, add-one}
use Prim.Native.Nat as Nat
use Rattle.lmots.specs.declared.ots_type.OtsType.{OtsType}
use Rattle.lmots.specs.declared.ots_type.OtsType.TheVariants.{W1, W2, W4, W8}
use Rattle.lmots.specs.OtsType.{width}
use Rattle.lmots.specs.Digits.{coef, spelled}
use Rattle.lmots.proofs.DigitBytes.{coef_W1, coef_W2, coef_W4, coef_W8}

next : (base : ℕ) (d : ℕ → ℕ) (m k : ℕ) → spelled base d (m + (k + 1)) ≡ spelled base d (m + k) * base + d (m + k)
unfolding spelled
next base d m k =
    let place : m + (k + 1) ≡ suc (m + k) = omega arith in
    ap (spelled base d) place

last : (base : ℕ) (d : ℕ → ℕ) (n : ℕ) → spelled base d (n + 1) ≡ spelled base d n * base + d n
unfolding spelled
last base d n = rw add-one refl

none : (base : ℕ) (d : ℕ → ℕ) (m : ℕ) → m ≡ 0 → spelled base d m ≡ 0
unfolding spelled
none base d m e = ap (spelled base d) e

start : (base : ℕ) (d : ℕ → ℕ) (m : ℕ) → spelled base d (m + 0) ≡ spelled base d m
start base d m =
    let place : m + 0 ≡ m = omega arith in
    ap (spelled base d) place

abbrev AreBytes : List ℕ → Type 0
AreBytes s = (i : ℕ) → slice_index s i < 256

-- the digits of width w of the first n bytes
abbrev by_digits : List ℕ → ℕ → ℕ → ℕ
by_digits s w n = spelled (2 ^ w) (λ k. coef s k w) (8 / w * n)

abbrev by_bytes : List ℕ → ℕ → ℕ
by_bytes s n = spelled 256 (λ i. slice_index s i) n

one_W8 : (s : List ℕ) (n : ℕ) → AreBytes s → by_digits s 8 n ≡ by_bytes s n → by_digits s 8 (n + 1) ≡ by_bytes s (n + 1)
one_W8 s n bytes before =
    let d : ℕ → ℕ = λ k. coef s k 8 in
    let place : 1 * (n + 1) ≡ 1 * n + (0 + 1) = omega arith in
    ap (spelled 256 d) place
    ∙ omega (arith, bytes n, before, next 256 d (1 * n) 0, start 256 d (1 * n), coef_W8 s n 0 (lit< tt), last 256 (λ i. slice_index s i) n)

one_W4 : (s : List ℕ) (n : ℕ) → AreBytes s → by_digits s 4 n ≡ by_bytes s n → by_digits s 4 (n + 1) ≡ by_bytes s (n + 1)
one_W4 s n bytes before =
    let d : ℕ → ℕ = λ k. coef s k 4 in
    let place : 2 * (n + 1) ≡ 2 * n + (1 + 1) = omega arith in
    ap (spelled 16 d) place
    ∙ omega (
      arith,
      bytes n,
      before,
      start 16 d (2 * n),
      next 16 d (2 * n) 0,
      next 16 d (2 * n) 1,
      coef_W4 s n 0 (lit< tt),
      coef_W4 s n 1 (lit< tt),
      last 256 (λ i. slice_index s i) n,
    )

one_W2 : (s : List ℕ) (n : ℕ) → AreBytes s → by_digits s 2 n ≡ by_bytes s n → by_digits s 2 (n + 1) ≡ by_bytes s (n + 1)
one_W2 s n bytes before =
    let d : ℕ → ℕ = λ k. coef s k 2 in
    let place : 4 * (n + 1) ≡ 4 * n + (3 + 1) = omega arith in
    ap (spelled 4 d) place
    ∙ omega (
      arith,
      bytes n,
      before,
      start 4 d (4 * n),
      next 4 d (4 * n) 0,
      next 4 d (4 * n) 1,
      next 4 d (4 * n) 2,
      next 4 d (4 * n) 3,
      coef_W2 s n 0 (lit< tt),
      coef_W2 s n 1 (lit< tt),
      coef_W2 s n 2 (lit< tt),
      coef_W2 s n 3 (lit< tt),
      last 256 (λ i. slice_index s i) n,
    )

one_W1 : (s : List ℕ) (n : ℕ) → AreBytes s → by_digits s 1 n ≡ by_bytes s n → by_digits s 1 (n + 1) ≡ by_bytes s (n + 1)
one_W1 s n bytes before =
    let d : ℕ → ℕ = λ k. coef s k 1 in
    let place : 8 * (n + 1) ≡ 8 * n + (7 + 1) = omega arith in
    ap (spelled 2 d) place
    ∙ omega (
      arith,
      bytes n,
      before,
      start 2 d (8 * n),
      next 2 d (8 * n) 0,
      next 2 d (8 * n) 1,
      next 2 d (8 * n) 2,
      next 2 d (8 * n) 3,
      next 2 d (8 * n) 4,
      next 2 d (8 * n) 5,
      next 2 d (8 * n) 6,
      next 2 d (8 * n) 7,
      coef_W1 s n 0 (lit< tt),
      coef_W1 s n 1 (lit< tt),
      coef_W1 s n 2 (lit< tt),
      coef_W1 s n 3 (lit< tt),
      coef_W1 s n 4 (lit< tt),
      coef_W1 s n 5 (lit< tt),
      coef_W1 s n 6 (lit< tt),
      coef_W1 s n 7 (lit< tt),
      last 256 (λ i. slice_index s i) n,
    )

one_more : (kind : OtsType) (s : List ℕ) (n : ℕ) → AreBytes s → by_digits s (width kind) n ≡ by_bytes s n → by_digits s (width kind) (n + 1) ≡ by_bytes s (n + 1)
one_more W1 s n bytes before = one_W1 s n bytes before
one_more W2 s n bytes before = one_W2 s n bytes before
one_more W4 s n bytes before = one_W4 s n bytes before
one_more W8 s n bytes before = one_W8 s n bytes before

pub same_number : (kind : OtsType) (s : List ℕ) (n : ℕ) → AreBytes s → by_digits s (width kind) n ≡ by_bytes s n
same_number kind s Nat.zero bytes =
    omega (arith, none (2 ^ width kind) (λ k. coef s k (width kind)) (8 / width kind * 0) (omega arith), none 256 (λ i. slice_index s i) 0 refl)
same_number kind s (suc n) bytes =
    let count : suc n ≡ n + 1 = omega arith in
    ap (by_digits s (width kind)) count ∙ one_more kind s n bytes (same_number kind s n bytes)
    ∙ ap (by_bytes s) (omega arith)
