-- Bytes as hexadecimal digits, two a byte, in lower case alone.
use Rattle.std.specs.Prelude.{◌≡◌, ◌*◌, ◌&&◌, ◌||◌, ℕ, Bool, List, length, nat_le}
use Rattle.std.specs.List.{AllPass}

-- the codes of `0` to `9`, and of `a` to `f`
abbrev pub is_lower_digit : ℕ → Bool
is_lower_digit c = (nat_le 48 c && nat_le c 57) || (nat_le 97 c && nat_le c 102)

-- the text has two lower-case digits for each of n bytes
abbrev pub IsLowerHexadecimal : ℕ → List ℕ → Type 0
IsLowerHexadecimal n text = (length text ≡ 2 * n) × AllPass is_lower_digit text
