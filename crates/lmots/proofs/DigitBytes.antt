-- A byte's digits fix the byte.
use Rattle.std.proofs.Common.{◌≡◌, ℕ, ◌+◌, ◌-◌, ◌*◌, ◌/◌, ◌%◌, ◌^◌, ◌<◌, List, slice_index, arith, lit<, sym, ◌∙◌}
use Rattle.lmots.specs.Digits.{coef}

pub coef_W1 : (s : List ℕ) (i j : ℕ) → j < 8 → coef s (8 * i + j) 1 ≡ slice_index s i / 2 ^ (8 - (1 * j + 1)) % 2
coef_W1 s i j low =
    let place : (8 * i + j) * 1 / 8 ≡ i = omega arith in
    let within : (8 * i + j) % 8 ≡ j = omega arith in
    λ t. slice_index s (place t) / 2 ^ (8 - (1 * within t + 1)) % 2

pub coef_W2 : (s : List ℕ) (i j : ℕ) → j < 4 → coef s (4 * i + j) 2 ≡ slice_index s i / 2 ^ (8 - (2 * j + 2)) % 4
coef_W2 s i j low =
    let place : (4 * i + j) * 2 / 8 ≡ i = omega arith in
    let within : (4 * i + j) % 4 ≡ j = omega arith in
    λ t. slice_index s (place t) / 2 ^ (8 - (2 * within t + 2)) % 4

pub coef_W4 : (s : List ℕ) (i j : ℕ) → j < 2 → coef s (2 * i + j) 4 ≡ slice_index s i / 2 ^ (8 - (4 * j + 4)) % 16
coef_W4 s i j low =
    let place : (2 * i + j) * 4 / 8 ≡ i = omega arith in
    let within : (2 * i + j) % 2 ≡ j = omega arith in
    λ t. slice_index s (place t) / 2 ^ (8 - (4 * within t + 4)) % 16

pub coef_W8 : (s : List ℕ) (i j : ℕ) → j < 1 → coef s (1 * i + j) 8 ≡ slice_index s i / 2 ^ (8 - (8 * j + 8)) % 256
coef_W8 s i j low =
    let place : (1 * i + j) * 8 / 8 ≡ i = omega arith in
    let within : (1 * i + j) % 1 ≡ j = omega arith in
    λ t. slice_index s (place t) / 2 ^ (8 - (8 * within t + 8)) % 256

-- the digits of each byte of two strings are equal
abbrev pub SameDigits : List ℕ → List ℕ → ℕ → ℕ → Type 0
SameDigits s t w n = (k : ℕ) → k < n → coef s k w ≡ coef t k w

pub byte_W1 : (s t : List ℕ) (i : ℕ) → i < 32 → slice_index s i < 256 → slice_index t i < 256 → SameDigits s t 1 256
    → slice_index s i ≡ slice_index t i
byte_W1 s t i inside small small_too same =
    let at : (j : ℕ) → j < 8 → slice_index s i / 2 ^ (8 - (1 * j + 1)) % 2 ≡ slice_index t i / 2 ^ (8 - (1 * j + 1)) % 2 =
    λ j low. sym (coef_W1 s i j low) ∙ same (8 * i + j) (omega arith) ∙ coef_W1 t i j low in
    omega (
      arith,
      small,
      small_too,
      at 0 (lit< tt),
      at 1 (lit< tt),
      at 2 (lit< tt),
      at 3 (lit< tt),
      at 4 (lit< tt),
      at 5 (lit< tt),
      at 6 (lit< tt),
      at 7 (lit< tt),
    )

pub byte_W2 : (s t : List ℕ) (i : ℕ) → i < 32 → slice_index s i < 256 → slice_index t i < 256 → SameDigits s t 2 128
    → slice_index s i ≡ slice_index t i
byte_W2 s t i inside small small_too same =
    let at : (j : ℕ) → j < 4 → slice_index s i / 2 ^ (8 - (2 * j + 2)) % 4 ≡ slice_index t i / 2 ^ (8 - (2 * j + 2)) % 4 =
    λ j low. sym (coef_W2 s i j low) ∙ same (4 * i + j) (omega arith) ∙ coef_W2 t i j low in
    omega (arith, small, small_too, at 0 (lit< tt), at 1 (lit< tt), at 2 (lit< tt), at 3 (lit< tt))

pub byte_W4 : (s t : List ℕ) (i : ℕ) → i < 32 → slice_index s i < 256 → slice_index t i < 256 → SameDigits s t 4 64
    → slice_index s i ≡ slice_index t i
byte_W4 s t i inside small small_too same =
    let at : (j : ℕ) → j < 2 → slice_index s i / 2 ^ (8 - (4 * j + 4)) % 16 ≡ slice_index t i / 2 ^ (8 - (4 * j + 4)) % 16 =
    λ j low. sym (coef_W4 s i j low) ∙ same (2 * i + j) (omega arith) ∙ coef_W4 t i j low in
    omega (arith, small, small_too, at 0 (lit< tt), at 1 (lit< tt))

pub byte_W8 : (s t : List ℕ) (i : ℕ) → i < 32 → slice_index s i < 256 → slice_index t i < 256 → SameDigits s t 8 32
    → slice_index s i ≡ slice_index t i
byte_W8 s t i inside small small_too same =
    let at : (j : ℕ) → j < 1 → slice_index s i / 2 ^ (8 - (8 * j + 8)) % 256 ≡ slice_index t i / 2 ^ (8 - (8 * j + 8)) % 256 =
    λ j low. sym (coef_W8 s i j low) ∙ same (1 * i + j) (omega arith) ∙ coef_W8 t i j low in
    omega (arith, small, small_too, at 0 (lit< tt))
