-- Bytes as one printable word of ASCII.
use Rattle.std.specs.Prelude.{◌/◌, ◌%◌, ◌==◌, ◌&&◌, ℕ, Bool, not, nat_lt, if◌then◌else◌, List, [], ◌∷◌, codes}
use Rattle.std.specs.Prelude.{slice_index}
use Rattle.std.specs.List.{flat_map}

-- whether a byte stands for itself: it is printed, no space, and not `%`
abbrev pub is_plain : ℕ → Bool
is_plain byte = nat_lt 32 byte && nat_lt byte 127 && not (byte == 37)

abbrev pub upper_digits : List ℕ
upper_digits = codes "0123456789ABCDEF"

-- a byte as it is, or as `%` and two digits, the high four bits first
abbrev pub escaped_byte : ℕ → List ℕ
escaped_byte byte = if is_plain byte then byte ∷ [] else 37 ∷ slice_index upper_digits (byte / 16)
    ∷ slice_index upper_digits (byte % 16) ∷ []

abbrev pub escaped : List ℕ → List ℕ
escaped bytes = flat_map escaped_byte bytes
