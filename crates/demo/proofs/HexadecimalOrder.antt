-- Bytes are ordered as their digits are in hexadecimal.
use Rattle.std.proofs.Common.{◌≡◌, ◌⊎◌, ◌+◌, ◌*◌, ◌/◌, ◌%◌, ◌<◌, ◌≤◌, ◌==◌, ℕ, suc, Bool, true, false, ◌||◌, not, cond, List, [], ◌∷◌, slice_index, inl, inr, refl, sym, ap, ◌∙◌, arith}
use Rattle.std.specs.Prelude.{nat_lt}
use Rattle.std.specs.Ordering.{nat_cmp, ordering_then}
use Rattle.std.specs.declared.cmp.Ordering.{Ordering}
use Rattle.std.specs.declared.cmp.Ordering.TheVariants.{Less, Equal, Greater}
use Rattle.std.proofs.lemmas.Bool.{agree_below_at, eq-eqb, eqb-true, le-ltb, lt-ltb, ltb-false, ltb-true, or_cases}
use Rattle.hex.specs.Hex.{IsBytes, encode_lower, encode_with, lower_digits}
use Rattle.octets.specs.BytesMap.{by_bytes}

cmp_less : (x y : ℕ) (o : Ordering) → x < y → ordering_then (nat_cmp x y) o ≡ Less
cmp_less x y o less = ap (λ (b : Bool). ordering_then (cond b Less (cond (x == y) Equal Greater)) o) (lt-ltb x y less)

cmp_self : (x : ℕ) (o : Ordering) → ordering_then (nat_cmp x x) o ≡ o
cmp_self x o =
    ap (λ (b : Bool). ordering_then (cond b Less (cond (x == x) Equal Greater)) o) (le-ltb x x (omega arith))
    ∙ ap (λ (b : Bool). ordering_then (cond b Equal Greater) o) (eq-eqb x x refl)

cmp_same : (x y : ℕ) (o : Ordering) → x ≡ y → ordering_then (nat_cmp x y) o ≡ o
cmp_same x y o same = ap (λ (z : ℕ). ordering_then (nat_cmp x z) o) (sym same) ∙ cmp_self x o

-- the first bytes decide, or they are one and the others do
first_or_rest : (x y : ℕ) (o : Ordering) → ordering_then (nat_cmp x y) o ≡ Less → (x < y) ⊎ ((x ≡ y) × (o ≡ Less))
first_or_rest x y o is = by (nat_lt x y) (x == y) refl refl is
  where
    by : (b c : Bool) → nat_lt x y ≡ b → (x == y) ≡ c → ordering_then (cond b Less (cond c Equal Greater)) o ≡ Less → (x < y) ⊎ ((x ≡ y) × (o ≡ Less))
    by true c less same e = inl (ltb-true x y less)
    by false true less same e = inr (eqb-true x y same, e)
    by false false less same e = let clash : Greater ≡ Less = e in cc

-- of two numbers below 16, written as one, the digits rise as the numbers do
rises : ℕ → Bool
rises k = not (nat_lt (k / 16) (k % 16)) || nat_lt (slice_index lower_digits (k / 16)) (slice_index lower_digits (k % 16))

digit_less : (m n : ℕ) → m < n → n < 16 → slice_index lower_digits m < slice_index lower_digits n
unfolding rises
digit_less m n less small =
    let k : ℕ = m * 16 + n in
    let high : k / 16 ≡ m = omega arith in
    let low : k % 16 ≡ n = omega arith in
    let within : k < 256 = omega arith in
    let less_parts : k / 16 < k % 16 = omega arith in
    elim (or_cases (not (nat_lt (k / 16) (k % 16))) (nat_lt (slice_index lower_digits (k / 16)) (slice_index lower_digits (k % 16))) (agree_below_at rises (λ _. true) 256 k refl within)) [
      | inl other ↦ let e : not true ≡ true = ap not (sym (lt-ltb (k / 16) (k % 16) less_parts)) ∙ other in cc
      | inr is ↦
          let rise = ltb-true (slice_index lower_digits (k / 16)) (slice_index lower_digits (k % 16)) is in
          let left : slice_index lower_digits (k / 16) ≡ slice_index lower_digits m = ap (slice_index lower_digits) high in
          let right : slice_index lower_digits (k % 16) ≡ slice_index lower_digits n = ap (slice_index lower_digits) low in
          omega (arith, rise, left, right)
    ]

-- the two digits of a byte against those of a greater one
byte_less : (x y : ℕ) (o : Ordering) → x < y → y < 256
    → ordering_then (nat_cmp (slice_index lower_digits (x / 16)) (slice_index lower_digits (y / 16)))
    (ordering_then (nat_cmp (slice_index lower_digits (x % 16)) (slice_index lower_digits (y % 16))) o) ≡ Less
byte_less x y o less small = by (nat_lt (x / 16) (y / 16)) refl
  where
    same_high : nat_lt (x / 16) (y / 16) ≡ false → x / 16 ≡ y / 16
    same_high e = let h : y / 16 ≤ x / 16 = ltb-false (x / 16) (y / 16) e in omega arith

    by : (b : Bool) → nat_lt (x / 16) (y / 16) ≡ b
        → ordering_then (nat_cmp (slice_index lower_digits (x / 16)) (slice_index lower_digits (y / 16)))
        (ordering_then (nat_cmp (slice_index lower_digits (x % 16)) (slice_index lower_digits (y % 16))) o) ≡ Less
    by true is =
        cmp_less (slice_index lower_digits (x / 16)) (slice_index lower_digits (y / 16)) _
        (digit_less (x / 16) (y / 16) (ltb-true (x / 16) (y / 16) is) (omega arith))
    by false is =
        let same : x / 16 ≡ y / 16 = same_high is in
        let low : x % 16 < y % 16 = omega arith in
        cmp_same (slice_index lower_digits (x / 16)) (slice_index lower_digits (y / 16)) _ (ap (slice_index lower_digits) same)
        ∙ cmp_less (slice_index lower_digits (x % 16)) (slice_index lower_digits (y % 16)) o (digit_less (x % 16) (y % 16) low (omega arith))

-- texts in hexadecimal rise as their bytes do
pub hexadecimal_less : (a b : List ℕ) → IsBytes a → IsBytes b → by_bytes a b ≡ Less → by_bytes (encode_lower a) (encode_lower b) ≡ Less
unfolding encode_with
hexadecimal_less [] [] ha hb is = is
hexadecimal_less [] (y ∷ b) ha hb is = refl
hexadecimal_less (x ∷ a) [] ha hb is = is
hexadecimal_less (x ∷ a) (y ∷ b) ha hb is = elim (first_or_rest x y (by_bytes a b) is) [
  | inl less ↦ byte_less x y (by_bytes (encode_lower a) (encode_lower b)) less (hb 0)
  | inr rest ↦
      cmp_same (slice_index lower_digits (x / 16)) (slice_index lower_digits (y / 16)) _ (ap (λ (n : ℕ). slice_index lower_digits (n / 16)) rest.0)
      ∙ cmp_same (slice_index lower_digits (x % 16)) (slice_index lower_digits (y % 16)) _ (ap (λ (n : ℕ). slice_index lower_digits (n % 16)) rest.0)
      ∙ hexadecimal_less a b (λ k. ha (suc k)) (λ k. hb (suc k)) rest.1
]
