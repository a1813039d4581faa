-- The printable word of some bytes is ASCII.
use Rattle.std.proofs.Common.{◌≡◌, ◌<◌, ◌/◌, ◌%◌, ℕ, suc, zero, Bool, true, false, List, [], ◌∷◌, slice_index, arith, refl, subst, sym}
use Rattle.std.specs.Prelude.{◌==◌, ◌&&◌, IsUtf8, if◌then◌else◌, not}
use Rattle.std.specs.Bool.{nat_lt}
use Rattle.std.specs.List.{list_all}
use Rattle.std.specs.Str.{IsAscii}
use Rattle.std.proofs.lemmas.Bool.{and_parts, ltb-true}
use Rattle.std.proofs.lemmas.Str.{IsAscii-append, IsUtf8-from_ascii}
use Rattle.octets.specs.Escaped.{escaped, escaped_byte, is_plain, upper_digits}

-- a test of each byte
abbrev is_low : ℕ → Bool
is_low byte = nat_lt byte 128

low : (byte : ℕ) → nat_lt byte 128 ≡ true → byte < 128
low byte is = ltb-true byte 128 is

all_low : (bytes : List ℕ) → list_all is_low bytes ≡ true → IsAscii bytes
all_low [] is = λ i. omega arith
all_low (byte ∷ bytes) is =
    let parts = and_parts (is_low byte) (list_all is_low bytes) is in
    let first = low byte parts.0 in
    let rest = all_low bytes parts.1 in
    at first rest
  where
    at : byte < 128 → IsAscii bytes → IsAscii (byte ∷ bytes)
    at first rest zero = first
    at first rest (suc i) = rest i

digits_low : IsAscii upper_digits
digits_low = all_low upper_digits refl

one_byte : (byte : ℕ) → byte < 128 → IsAscii (byte ∷ [])
one_byte byte is zero = is
one_byte byte is (suc i) = omega arith

plain_low : (byte : ℕ) → is_plain byte ≡ true → byte < 128
plain_low byte is =
    let range = and_parts (nat_lt 32 byte && nat_lt byte 127) (not (byte == 37)) is in
    let below = ltb-true byte 127 (and_parts (nat_lt 32 byte) (nat_lt byte 127) range.0).1 in
    omega (arith, below)

-- a byte of either kind
either_low : (byte : ℕ) (plain : Bool) → is_plain byte ≡ plain → IsAscii (if plain then byte ∷ [] else 37 ∷ slice_index upper_digits (byte / 16) ∷ slice_index upper_digits (byte % 16) ∷ [])
either_low byte true is = one_byte byte (plain_low byte is)
either_low byte false is = three (slice_index upper_digits (byte / 16)) (slice_index upper_digits (byte % 16)) (digits_low (byte / 16)) (digits_low (byte % 16)) where
  three : (high low : ℕ) → high < 128 → low < 128 → IsAscii (37 ∷ high ∷ low ∷ [])
  three high low one two zero = omega arith
  three high low one two (suc zero) = one
  three high low one two (suc (suc zero)) = two
  three high low one two (suc (suc (suc i))) = omega arith

word_low : (bytes : List ℕ) → IsAscii (escaped bytes)
word_low [] = λ i. omega arith
word_low (byte ∷ bytes) = IsAscii-append (escaped_byte byte) (escaped bytes) (either_low byte (is_plain byte) refl) (word_low bytes)

pub is_text : (bytes word : List ℕ) → word ≡ escaped bytes → IsUtf8 word
is_text bytes word is = subst IsUtf8 (sym is) (IsUtf8-from_ascii (escaped bytes) (word_low bytes))
