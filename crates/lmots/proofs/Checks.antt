-- The digits of a checksum spell it, so where none of the second is less, the second is not less.
use Rattle.std.proofs.Common.{◌≡◌, ℕ, ◌+◌, ◌*◌, ◌/◌, ◌%◌, ◌<◌, ◌≤◌, List, slice_index, arith, lit<}
use Rattle.lmots.proofs.Compared.{AllAtLeast}

number_W1 : (m high low : ℕ) → m * 128 < 65536 → high ≡ m * 128 / 256 % 256 → low ≡ m * 128 % 256
    → high / 128 % 2 * 256 + high / 64 % 2 * 128 + high / 32 % 2 * 64 + high / 16 % 2 * 32 + high / 8 % 2 * 16
    + high / 4 % 2 * 8 + high / 2 % 2 * 4 + high / 1 % 2 * 2 + low / 128 % 2 ≡ m
number_W1 m high low fits is_high is_low = omega arith

number_W2 : (m high low : ℕ) → m * 64 < 65536 → high ≡ m * 64 / 256 % 256 → low ≡ m * 64 % 256
    → high / 64 % 4 * 256 + high / 16 % 4 * 64 + high / 4 % 4 * 16 + high / 1 % 4 * 4 + low / 64 % 4 ≡ m
number_W2 m high low fits is_high is_low = omega arith

number_W4 : (m high low : ℕ) → m * 16 < 65536 → high ≡ m * 16 / 256 % 256 → low ≡ m * 16 % 256
    → high / 16 % 16 * 256 + high / 1 % 16 * 16 + low / 16 % 16 ≡ m
number_W4 m high low fits is_high is_low = omega arith

number_W8 : (m high low : ℕ) → m * 1 < 65536 → high ≡ m * 1 / 256 % 256 → low ≡ m * 1 % 256
    → high / 1 % 256 * 256 + low / 1 % 256 ≡ m
number_W8 m high low fits is_high is_low = omega arith

-- a string ends in these two bytes of a checksum
pub record EndsIn (s : List ℕ) (checksum : ℕ) : Type 0 where
  pub fits : checksum < 65536
  pub high : slice_index s 32 ≡ checksum / 256 % 256
  pub low : slice_index s 33 ≡ checksum % 256

pub rises_W1 : (s t : List ℕ) (m n : ℕ) → EndsIn s (m * 128) → EndsIn t (n * 128) → AllAtLeast s t 1 265 → m ≤ n
rises_W1 s t m n first second none =
    omega (
      arith,
      number_W1 m (slice_index s 32) (slice_index s 33) first.fits first.high first.low,
      number_W1 n (slice_index t 32) (slice_index t 33) second.fits second.high second.low,
      none 256 (lit< tt),
      none 257 (lit< tt),
      none 258 (lit< tt),
      none 259 (lit< tt),
      none 260 (lit< tt),
      none 261 (lit< tt),
      none 262 (lit< tt),
      none 263 (lit< tt),
      none 264 (lit< tt),
    )

pub rises_W2 : (s t : List ℕ) (m n : ℕ) → EndsIn s (m * 64) → EndsIn t (n * 64) → AllAtLeast s t 2 133 → m ≤ n
rises_W2 s t m n first second none =
    omega (
      arith,
      number_W2 m (slice_index s 32) (slice_index s 33) first.fits first.high first.low,
      number_W2 n (slice_index t 32) (slice_index t 33) second.fits second.high second.low,
      none 128 (lit< tt),
      none 129 (lit< tt),
      none 130 (lit< tt),
      none 131 (lit< tt),
      none 132 (lit< tt),
    )

pub rises_W4 : (s t : List ℕ) (m n : ℕ) → EndsIn s (m * 16) → EndsIn t (n * 16) → AllAtLeast s t 4 67 → m ≤ n
rises_W4 s t m n first second none =
    omega (
      arith,
      number_W4 m (slice_index s 32) (slice_index s 33) first.fits first.high first.low,
      number_W4 n (slice_index t 32) (slice_index t 33) second.fits second.high second.low,
      none 64 (lit< tt),
      none 65 (lit< tt),
      none 66 (lit< tt),
    )

pub rises_W8 : (s t : List ℕ) (m n : ℕ) → EndsIn s (m * 1) → EndsIn t (n * 1) → AllAtLeast s t 8 34 → m ≤ n
rises_W8 s t m n first second none =
    omega (
      arith,
      number_W8 m (slice_index s 32) (slice_index s 33) first.fits first.high first.low,
      number_W8 n (slice_index t 32) (slice_index t 33) second.fits second.high second.low,
      none 32 (lit< tt),
      none 33 (lit< tt),
    )
