-- The digits of a string as a list.
use Rattle.std.proofs.Common.{◌≡◌, ℕ, ◌+◌, ◌*◌, ◌/◌, ◌%◌, ◌-◌, ◌^◌, ◌<◌, List, ◌++◌, length, slice_index, ap, arith}
use Rattle.std.proofs.lemmas.List.{get_or_append_left}
use Rattle.std.proofs.lemmas.List.FromFn.{length-map-range_with_len, get_or-map-range_with_len}
use Rattle.lmots.specs.Digits.{coef, digits}

pub length-digits : (s : List ℕ) (w n : ℕ) → length (digits s w n) ≡ n
unfolding digits
length-digits s w n = length-map-range_with_len (λ i. coef s i w) 0 n

pub slice_index-digits : (s : List ℕ) (w n k : ℕ) → k < n → slice_index (digits s w n) k ≡ coef s k w
unfolding digits
slice_index-digits s w n k inside = get_or-map-range_with_len (λ i. coef s i w) 0 n k k 0 inside (omega arith)

-- a digit of a string's front
pub coef-front : (s more : List ℕ) (k w : ℕ) → k * w / 8 < length s → coef (s ++ more) k w ≡ coef s k w
coef-front s more k w inside =
    ap (λ b. b / 2 ^ (8 - (w * (k % (8 / w)) + w)) % 2 ^ w) (get_or_append_left s more 0 (k * w / 8) inside)
