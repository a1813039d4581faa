-- A number's text is how its number is written, and how a number below 2^64 is written is such a text.
use Rattle.std.proofs.Common.{◌≡◌, ℕ, ◌<◌, ◌^◌, inl, inr, true, List, [], ◌∷◌, length, refl, sym, ap, subst, ◌∙◌, arith}
use Rattle.std.specs.Prelude.{decimal, slice_index}
use Rattle.std.specs.Char.{is_ascii_digit}
use Rattle.std.specs.List.{AllPass}
use Rattle.std.specs.Str.{all_ascii_digits}
use Rattle.std.specs.Str.Parse.{digits_value}
use Rattle.std.proofs.lemmas.Bool.{and_parts, and_from, cases_lt}
use Rattle.std.proofs.lemmas.Fmt.{decimal-digits_value, decimal_nonempty, digits_decimal, digits_value-decimal, decimal_digit, first_decimal}
use Rattle.std.proofs.lemmas.List.Elements.{All-cons, All-head, All-nil, All-tail}
use Rattle.std.proofs.lemmas.Str.Parse.{IsNumeralModel, numerals_by_value, tells_all_ascii_digits}
use Rattle.text_reader.specs.Number.{IsNumber, number_of}

abbrev AreDigits : List ℕ → Type 0
AreDigits text = all_ascii_digits text ≡ true

own : IsNumeralModel AreDigits (digits_value 10)
own = numerals_by_value AreDigits tells_all_ascii_digits

to_test : (text : List ℕ) → AllPass is_ascii_digit text → AreDigits text
to_test [] all = refl
to_test (c ∷ text) all =
    let P : ℕ → Type 0 = λ d. is_ascii_digit d ≡ true in
    and_from _ _ (All-head P c text all) (to_test text (All-tail P c text all))

from_test : (text : List ℕ) → AreDigits text → AllPass is_ascii_digit text
from_test [] are = All-nil _
from_test (c ∷ text) are =
    let P : ℕ → Type 0 = λ d. is_ascii_digit d ≡ true in
    let parts = and_parts (is_ascii_digit c) (all_ascii_digits text) are in
    All-cons P c text parts.0 (from_test text parts.1)

-- a number's text that writes a number below 2^64 is how that is written
pub written_number : (text : List ℕ) → IsNumber text → number_of text < 2 ^ 64 → text ≡ decimal (number_of text)
written_number text is small = sym (decimal-digits_value own text (to_test text is.digits) is.some is.one_form small)

pub number_of-decimal : (n : ℕ) → n < 2 ^ 64 → number_of (decimal n) ≡ n
number_of-decimal n small = digits_value-decimal own n small

one_form : (n : ℕ) → n < 2 ^ 64 → slice_index (decimal n) 0 ≡ 48 → length (decimal n) ≡ 1
one_form n small first = elim (cases_lt n 1) [
  | inl below ↦ let zero : n ≡ 0 = omega arith in ap (λ k. length (decimal k)) zero ∙ ap length (decimal_digit 0 (omega arith))
  | inr more ↦ let high = first_decimal n more small in absurd (omega arith)
]

-- how a number is written is a number's text
pub decimal_is_number : (n : ℕ) → n < 2 ^ 64 → IsNumber (decimal n)
decimal_is_number n small = record {
  digits = from_test (decimal n) (digits_decimal own n small);
  some = decimal_nonempty n small;
  one_form = one_form n small;
}

-- what is written as a number past a limit
pub past_limit : (text : List ℕ) (n most : ℕ) → n < 2 ^ 64 → text ≡ decimal n → most < n → IsNumber text × (most < number_of text)
past_limit text n most small e more =
    let value : number_of text ≡ n = ap number_of e ∙ number_of-decimal n small in
    (subst IsNumber (sym e) (decimal_is_number n small), omega arith)

-- a number's text that no number below 2^64 is written as
pub past_all : (text : List ℕ) (most : ℕ) → most < 2 ^ 64 → IsNumber text → ((n : ℕ) → n < 2 ^ 64 → text ≡ decimal n → ⊥) → IsNumber text × (most < number_of text)
past_all text most fits is none = elim (cases_lt (number_of text) (2 ^ 64)) [
  | inl small ↦ absurd (none (number_of text) small (written_number text is small))
  | inr large ↦ (is, omega arith)
]
