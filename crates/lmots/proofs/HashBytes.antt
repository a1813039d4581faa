-- A SHA-256 has 32 bytes.
use Rattle.std.proofs.Common.{ℕ, suc, ◌-◌, ◌<◌, List, ◌++◌, length, slice_index, inl, inr, arith}
use Prim.Native.Nat as Nat
use Rattle.std.specs.Int.{w32, to_be_bytes}
use Rattle.std.proofs.lemmas.Bool.{cases_lt}
use Rattle.std.proofs.lemmas.List.{get_or_append_left}
use Rattle.std.proofs.Math.Seq.{get_or-append_right}
use Rattle.sha2.specs.Sha256.{digest_bytes, sha256}
use Rattle.sha2.proofs.Facts256.{length-sha256}
use Rattle.lmots.proofs.LesserDigit.{IsDigest}

abbrev AreBytes : List ℕ → Type 0
AreBytes s = (i : ℕ) → slice_index s i < 256

append_bytes : (s t : List ℕ) → AreBytes s → AreBytes t → AreBytes (s ++ t)
append_bytes s t first second i =
    elim (cases_lt i (length s)) [
      | inl below ↦ omega (arith, get_or_append_left s t 0 i below, first i)
      | inr above ↦ omega (arith, get_or-append_right s t i 0 above, second (i - length s))
    ]

number_bytes : (n : ℕ) → AreBytes (to_be_bytes w32 n)
number_bytes n Nat.zero = omega arith
number_bytes n (suc Nat.zero) = omega arith
number_bytes n (suc (suc Nat.zero)) = omega arith
number_bytes n (suc (suc (suc Nat.zero))) = omega arith
number_bytes n (suc (suc (suc (suc i)))) = omega arith

words_bytes : (h : List ℕ) (n : ℕ) → AreBytes (digest_bytes h n)
unfolding digest_bytes
words_bytes h Nat.zero i = omega arith
words_bytes h (suc n) i = append_bytes (digest_bytes h n) (to_be_bytes w32 (slice_index h n)) (words_bytes h n) (number_bytes (slice_index h n)) i

sha256_bytes : (m : List ℕ) → AreBytes (sha256 m)
unfolding sha256
sha256_bytes m = words_bytes _ 8

pub IsDigest-sha256 : (m : List ℕ) → IsDigest (sha256 m)
IsDigest-sha256 m = record { long = length-sha256 m; bytes = sha256_bytes m }
