-- Bytes that stand for themselves between quotes, and digits among them.
use Rattle.std.proofs.Common.{◌≡◌, ◌<◌, ◌/◌, ◌%◌, ◌++◌, ℕ, suc, true, List, [], ◌∷◌, slice_index, append_assoc, arith, refl, ap, sym, ◌∙◌}
use Rattle.std.specs.List.{AllPass, list_all}
use Rattle.std.proofs.lemmas.Bool.{agree_below_at, and_from, and_parts}
use Rattle.std.proofs.lemmas.Bool.Decides.{nat_tests}
use Rattle.std.proofs.lemmas.List.Sums.{AllPass-from_list_all, list_all-from_AllPass}
use Rattle.hex.specs.Hex.{IsBytes, encode_lower, encode_with, lower_digits}
use Rattle.json.specs.Print.{escape, escape_byte, quoted}
use Rattle.json_fields.specs.Writing.{is_plain}

plain_byte : (byte : ℕ) → is_plain byte ≡ true → escape_byte byte ≡ byte ∷ []
unfolding escape_byte
plain_byte byte is = grind (arith, nat_tests)

all_plain : (bytes : List ℕ) → list_all is_plain bytes ≡ true → escape bytes ≡ bytes
all_plain [] is = refl
all_plain (byte ∷ bytes) is =
    let parts = and_parts (is_plain byte) (list_all is_plain bytes) is in
    let first = plain_byte byte parts.0 in
    let rest = all_plain bytes parts.1 in
    λ i. first i ++ rest i

pub as_it_is : (bytes : List ℕ) → AllPass is_plain bytes → escape bytes ≡ bytes
as_it_is bytes all = all_plain bytes (list_all-from_AllPass is_plain bytes all)

-- bytes between two quotes
pub between : (old first mid new bytes : List ℕ) → first ≡ old ++ 34 ∷ [] → mid ≡ first ++ bytes → new ≡ mid ++ 34 ∷ [] → escape bytes ≡ bytes → new ≡ old ++ quoted bytes
between old first mid new bytes opened filled closed plain =
    closed ∙ ap (λ text. text ++ 34 ∷ []) (filled ∙ ap (λ text. text ++ bytes) opened) ∙ append_assoc (old ++ 34 ∷ []) bytes (34 ∷ []) ∙ append_assoc old (34 ∷ []) (bytes ++ 34 ∷ [])
    ∙ ap (λ text. old ++ 34 ∷ (text ++ 34 ∷ [])) (sym plain)

digit_plain : (digit : ℕ) → digit < 16 → is_plain (slice_index lower_digits digit) ≡ true
digit_plain digit low = agree_below_at (λ d. is_plain (slice_index lower_digits d)) (λ _. true) 16 digit refl low

digits_plain : (bytes : List ℕ) → IsBytes bytes → list_all is_plain (encode_lower bytes) ≡ true
unfolding encode_with
digits_plain [] are = refl
digits_plain (byte ∷ bytes) are =
    let is = are 0 in
    let high : byte / 16 < 16 = omega arith in
    let low : byte % 16 < 16 = omega arith in
    and_from _ _ (digit_plain (byte / 16) high) (and_from _ _ (digit_plain (byte % 16) low) (digits_plain bytes (λ i. are (suc i))))

pub hexadecimal_plain : (bytes : List ℕ) → IsBytes bytes → AllPass is_plain (encode_lower bytes)
hexadecimal_plain bytes are = AllPass-from_list_all is_plain (encode_lower bytes) (digits_plain bytes are)
