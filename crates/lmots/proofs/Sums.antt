-- What the digits lack, summed: it grows by a digit, and it is small enough for 16 bits.
use Rattle.std.proofs.Common.{◌≡◌, ℕ, ◌+◌, ◌-◌, ◌*◌, ◌/◌, ◌^◌, ◌<◌, ◌≤◌, List, arith, refl}
use Rattle.std.specs.List.{sum_by}
use Rattle.std.proofs.lemmas.List.Sums.{sum_by-le}
use Rattle.std.proofs.lemmas.List.FromFn.{sum_by-map-range_with_len_more}
use Rattle.lmots.specs.declared.ots_type.OtsType.{OtsType}
use Rattle.lmots.specs.declared.ots_type.OtsType.TheVariants.{W1, W2, W4, W8}
use Rattle.lmots.specs.OtsType.{width}
use Rattle.lmots.specs.Digits.{coef, digits, checksum}
use Rattle.lmots.proofs.DigitLists.{length-digits}

pub lacked_none : (b : ℕ) (s : List ℕ) (w : ℕ) → 0 ≡ sum_by (λ d. b - d) (digits s w 0)
unfolding digits
lacked_none b s w = refl

pub lacked_more : (b : ℕ) (s : List ℕ) (w n : ℕ)
    → sum_by (λ d. b - d) (digits s w (n + 1)) ≡ sum_by (λ d. b - d) (digits s w n) + (b - coef s n w)
unfolding digits
lacked_more b s w n = sum_by-map-range_with_len_more (λ d. b - d) (λ i. coef s i w) 0 n n (omega arith)

-- what n digits lack is at most n times the greatest
pub lacked_small : (b : ℕ) (s : List ℕ) (w n : ℕ) → sum_by (λ d. b - d) (digits s w n) ≤ n * b
lacked_small b s w n =
    let bound = sum_by-le (λ d. b - d) b (digits s w n) (λ k d lt. omega arith) in
    rw (length-digits s w n) at bound

pub sum_fits : (kind : OtsType) (s : List ℕ) (index sum more : ℕ) → index < 256 / width kind → more ≤ 2 ^ width kind - 1
    → sum ≡ sum_by (λ d. 2 ^ width kind - 1 - d) (digits s (width kind) index) → sum + more < 65536
sum_fits W1 s index sum more inside low so_far = omega (arith, lacked_small 1 s 1 index)
sum_fits W2 s index sum more inside low so_far = omega (arith, lacked_small 3 s 2 index)
sum_fits W4 s index sum more inside low so_far = omega (arith, lacked_small 15 s 4 index)
sum_fits W8 s index sum more inside low so_far = omega (arith, lacked_small 255 s 8 index)

pub checksum_small : (kind : OtsType) (s : List ℕ) → checksum kind s < 65536
checksum_small W1 s = omega (arith, lacked_small 1 s 1 256)
checksum_small W2 s = omega (arith, lacked_small 3 s 2 128)
checksum_small W4 s = omega (arith, lacked_small 15 s 4 64)
checksum_small W8 s = omega (arith, lacked_small 255 s 8 32)
