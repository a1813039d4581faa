-- Each number has one text, made of its digits in base ten.
use Rattle.std.proofs.Common.{◌≡◌, ℕ, zero, suc, ◌+◌, ◌*◌, ◌/◌, ◌%◌, ◌<◌, ◌≤◌, true, inl, inr, List, [], ◌∷◌, ◌++◌, map, length, refl, sym, ap, ◌∙◌, append_assoc, arith}
use Rattle.std.specs.Char.{digit_value, is_ascii_digit}
use Rattle.std.specs.Int.{IsInRange}
use Rattle.std.specs.Int.Digits.{AllBelowBase, digits_of, number_from_digits_after}
use Rattle.std.specs.List.{AllPass}
use Rattle.std.specs.Str.Parse.{digits_value_after}
use Rattle.std.proofs.lemmas.Bool.{and_from, and_parts, cases_lt, leb-true, le-leb}
use Rattle.std.proofs.lemmas.Int.Digits.{all_below_base_digits_of, digits_of_step, digits_value_push, first_digits_of, length-digits_of_step, number_digits_of}
use Rattle.std.proofs.lemmas.List.{append-nil, get_or-map, length-map, map-append}
use Rattle.std.proofs.lemmas.List.Elements.{All-cons, All-head, All-nil, All-tail}
use Rattle.std.proofs.lemmas.Str.{digit_value_digit}
use Rattle.text_reader.specs.Laws.{OneSpelling, PlaceValue, SomeSpelling}
use Rattle.text_reader.specs.Number.{IsNumber, number_of}

-- the byte of a digit
abbrev byte_of : ℕ → ℕ
byte_of d = 48 + d

-- the bytes of a number's digits, of which 0 has none
abbrev digit_bytes : ℕ → List ℕ
digit_bytes n = map byte_of (digits_of 10 n)

-- the text of a number
abbrev spelling : ℕ → List ℕ
spelling zero = 48 ∷ []
spelling (suc n) = digit_bytes (suc n)

-- a byte that passes the test is one of `0` to `9`
in_range : (c : ℕ) → is_ascii_digit c ≡ true → IsInRange 48 57 c
in_range c h = let parts = and_parts _ _ h in (leb-true 48 c parts.0, leb-true c 57 parts.1)

-- a number's last digit is its last byte
digit_bytes_step : (n : ℕ) → 0 < n → digit_bytes n ≡ digit_bytes (n / 10) ++ byte_of (n % 10) ∷ []
digit_bytes_step n some = ap (map byte_of) (digits_of_step 10 n (omega arith) some) ∙ map-append byte_of (digits_of 10 (n / 10)) (n % 10 ∷ [])

-- one more digit is one more byte
one_more : (n c : ℕ) → IsInRange 48 57 c → 0 < n * 10 + digit_value c → digit_bytes (n * 10 + digit_value c) ≡ digit_bytes n ++ c ∷ []
one_more n c range some =
    let value = digit_value_digit c range in
    let front : (n * 10 + digit_value c) / 10 ≡ n = omega (arith, value, range.1) in
    let last : byte_of ((n * 10 + digit_value c) % 10) ≡ c = omega (arith, value, range.1) in
    digit_bytes_step (n * 10 + digit_value c) some ∙ (λ i. digit_bytes (front i) ++ last i ∷ [])

-- and so for more digits behind a number that is not 0
more : (n : ℕ) (cs : List ℕ) → 0 < n → AllPass is_ascii_digit cs → digit_bytes (digits_value_after 10 n cs) ≡ digit_bytes n ++ cs
more n [] some all = sym (append-nil (digit_bytes n))
more n (c ∷ cs) some all =
    let P : ℕ → Type 0 = λ d. is_ascii_digit d ≡ true in
    let range = in_range c (All-head P c cs all) in
    more (n * 10 + digit_value c) cs (omega arith) (All-tail P c cs all)
    ∙ ap (λ (t : List ℕ). t ++ cs) (one_more n c range (omega arith)) ∙ append_assoc (digit_bytes n) (c ∷ []) cs

-- what has bytes of digits is not 0
not_zero : (n c : ℕ) (cs : List ℕ) → digit_bytes n ≡ c ∷ cs → c ∷ cs ≡ spelling n
not_zero zero c cs e = let none : [] ≡ c ∷ cs = e in cc
not_zero (suc n) c cs e = sym e

-- a zero in front stands alone
single : (c : ℕ) (cs : List ℕ) → c ≡ 48 → length (c ∷ cs) ≡ 1 → c ∷ cs ≡ spelling (number_of (c ∷ cs))
single c [] e one = ap (λ d. d ∷ []) e ∙ ap (λ d. spelling (number_of (d ∷ []))) (sym e)
single c (d ∷ cs) e one = absurd (omega arith)

-- a number's text is the one that is made of its digits
spelled : (text : List ℕ) → IsNumber text → text ≡ spelling (number_of text)
spelled [] is = absurd (omega (arith, is.some))
spelled (c ∷ cs) is =
    let P : ℕ → Type 0 = λ d. is_ascii_digit d ≡ true in
    let range = in_range c (All-head P c cs is.digits) in
    let value = digit_value_digit c range in
    elim (cases_lt c 49) [
      | inl low ↦ let e : c ≡ 48 = omega (arith, range.0) in single c cs e (is.one_form e)
      | inr high ↦
          let some : 0 < 0 * 10 + digit_value c = omega (arith, value) in
          not_zero (number_of (c ∷ cs)) c cs
          (more (0 * 10 + digit_value c) cs some (All-tail P c cs is.digits) ∙ ap (λ (t : List ℕ). t ++ cs) (one_more 0 c range some))
    ]

pub one_spelling : OneSpelling
one_spelling a b first second same = spelled a first ∙ ap spelling same ∙ sym (spelled b second)

pub place_value : PlaceValue
place_value front digit low high = omega (arith, digits_value_push 10 front digit, digit_value_digit digit (low, high))

-- the bytes of digits pass the test
bytes_pass : (ds : List ℕ) → AllBelowBase 10 ds → AllPass is_ascii_digit (map byte_of ds)
bytes_pass [] below = All-nil _
bytes_pass (d ∷ ds) below =
    let small = below.0 in
    let low : 48 ≤ byte_of d = omega arith in
    let high : byte_of d ≤ 57 = omega arith in
    All-cons (λ c. is_ascii_digit c ≡ true) (byte_of d) (map byte_of ds)
    (and_from _ _ (le-leb 48 (byte_of d) low) (le-leb (byte_of d) 57 high)) (bytes_pass ds below.1)

-- and write what the digits do
bytes_value : (n : ℕ) (ds : List ℕ) → AllBelowBase 10 ds → digits_value_after 10 n (map byte_of ds) ≡ number_from_digits_after 10 n ds
bytes_value n [] below = refl
bytes_value n (d ∷ ds) below =
    let small = below.0 in
    let value : digit_value (byte_of d) ≡ d = omega (arith, digit_value_digit (byte_of d) (omega arith, omega arith)) in
    ap (λ v. digits_value_after 10 (n * 10 + v) (map byte_of ds)) value ∙ bytes_value (n * 10 + d) ds below.1

-- the bytes of the digits of a number that is not 0 are a number's text
is_number : (n : ℕ) → 0 < n → IsNumber (digit_bytes n)
is_number n some =
    let two : 2 ≤ 10 = omega arith in
    let long : 0 < length (digits_of 10 n) = omega (arith, length-digits_of_step 10 n two some) in
    let first = get_or-map byte_of (digits_of 10 n) 0 0 0 long in
    record {
      digits = bytes_pass (digits_of 10 n) (all_below_base_digits_of 10 n two);
      some = omega (arith, length-map (digits_of 10 n) byte_of);
      one_form = λ zero_first. absurd (omega (arith, first, zero_first, first_digits_of 10 n two some));
    }

number_of-digit_bytes : (n : ℕ) → number_of (digit_bytes n) ≡ n
number_of-digit_bytes n =
    let two : 2 ≤ 10 = omega arith in
    bytes_value 0 (digits_of 10 n) (all_below_base_digits_of 10 n two) ∙ number_digits_of 10 n two

zero_is_number : IsNumber (48 ∷ [])
zero_is_number = record { digits = All-cons (λ c. is_ascii_digit c ≡ true) 48 [] refl (All-nil _); some = omega arith; one_form = λ _. refl }

pub some_spelling : SomeSpelling
some_spelling zero = (48 ∷ [], zero_is_number, refl)
some_spelling (suc n) = (digit_bytes (suc n), is_number (suc n) (omega arith), number_of-digit_bytes (suc n))
