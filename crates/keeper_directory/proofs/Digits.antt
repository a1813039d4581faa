-- The digits of an id are text.
use Rattle.std.proofs.Common.{◌≡◌, ℕ, suc, ◌<◌, ◌≤◌, ◌&&◌, true, List, [], ◌∷◌, arith, inl, inr}
use Rattle.std.specs.Prelude.{nat_le}
use Rattle.std.specs.List.{AllPass}
use Rattle.std.specs.Str.{IsAscii, IsUtf8}
use Rattle.std.proofs.lemmas.Bool.{and_parts, or_cases, leb-true}
use Rattle.std.proofs.lemmas.List.Elements.{All-head, All-tail}
use Rattle.std.proofs.lemmas.Str.{IsUtf8-from_ascii}
use Rattle.std.proofs.lemmas.Str.Ascii.{IsAscii-nil}
use Rattle.hex.specs.Hex.{encode_lower}
use Rattle.text_reader.specs.Hexadecimal.{is_lower_digit}
use Rattle.text_reader.proofs.LowerHexadecimal.{encode_is_lower}
use Rattle.git_object.specs.Ids.{IsId}
use Prim.Native.Nat as Nat

small : (c : ℕ) → is_lower_digit c ≡ true → c < 128
small c h = elim (or_cases (nat_le 48 c && nat_le c 57) (nat_le 97 c && nat_le c 102) h) [
  | inl d ↦ let p : c ≤ 57 = leb-true c 57 (and_parts (nat_le 48 c) (nat_le c 57) d).1 in omega arith
  | inr d ↦ let p : c ≤ 102 = leb-true c 102 (and_parts (nat_le 97 c) (nat_le c 102) d).1 in omega arith
]

digits_are_ascii : (text : List ℕ) → AllPass is_lower_digit text → IsAscii text
digits_are_ascii [] h i = IsAscii-nil i
digits_are_ascii (c ∷ text) h Nat.zero = small c (All-head (λ (d : ℕ). is_lower_digit d ≡ true) c text h)
digits_are_ascii (c ∷ text) h (suc i) = digits_are_ascii text (All-tail (λ (d : ℕ). is_lower_digit d ≡ true) c text h) i

pub id_is_text : (id : List ℕ) → IsId id → IsUtf8 (encode_lower id)
id_is_text id is = IsUtf8-from_ascii (encode_lower id) (digits_are_ascii (encode_lower id) (encode_is_lower id is.bytes))
