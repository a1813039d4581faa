-- A text of lower-case hexadecimal digits is how the bytes that it reads as are written.
use Rattle.std.proofs.Common.{◌≡◌, ℕ, suc, ◌+◌, ◌*◌, ◌/◌, ◌%◌, ◌<◌, ◌≤◌, ◌==◌, Bool, true, not, ◌&&◌, ◌||◌, List, [], ◌∷◌, length, slice_index, Option, Some, None, Ok, Err, unwrap_or, refl, sym, ap, ◌∙◌, arith, inl, inr}
use Rattle.std.specs.Prelude.{nat_lt, nat_le}
use Rattle.std.specs.List.{AllPass}
use Rattle.std.proofs.lemmas.Bool.{agree_below_at, and_parts, or_cases, leb-true, ltb-true, eqb-true}
use Rattle.std.proofs.lemmas.List.Elements.{All-cons, All-head, All-nil, All-tail}
use Rattle.hex.specs.Hex.{IsBytes, decode_pairs, decode_sized, encode_lower, encode_with, hex_digit_value, lower_digits, value_at, digit_or_error, pair_value}
use Rattle.hex.proofs.HexLemmas.{decode_of-even, decode_of-same, decode_sized-ok, decode_sized-twice}
use Rattle.hex.proofs.Pairs.{cons_byte, decode_pairs-ok_pair}
use Rattle.hex.specs.declared.error.FromHexError.{FromHexError}
use Rattle.text_reader.specs.Hexadecimal.{is_lower_digit, IsLowerHexadecimal}

-- what a code reads as
abbrev value : ℕ → ℕ
value c = unwrap_or (hex_digit_value c) 99

-- a lower-case digit reads as a number below sixteen, whose digit it is
abbrev reads_back : ℕ → Bool
reads_back c = not (is_lower_digit c) || (nat_lt (value c) 16 && slice_index lower_digits (value c) == c)

-- the code of a lower-case digit is at most that of `f`
digit_below : (c : ℕ) → is_lower_digit c ≡ true → c < 103
digit_below c h = elim (or_cases (nat_le 48 c && nat_le c 57) (nat_le 97 c && nat_le c 102) h) [
  | inl d ↦ let p : c ≤ 57 = leb-true c 57 (and_parts (nat_le 48 c) (nat_le c 57) d).1 in omega arith
  | inr d ↦ let p : c ≤ 102 = leb-true c 102 (and_parts (nat_le 97 c) (nat_le c 102) d).1 in omega arith
]

digit_reads_back : (c : ℕ) → is_lower_digit c ≡ true → (nat_lt (value c) 16 && slice_index lower_digits (value c) == c) ≡ true
digit_reads_back c h =
    let back : Bool = nat_lt (value c) 16 && slice_index lower_digits (value c) == c in
    elim (or_cases (not (is_lower_digit c)) back (agree_below_at reads_back (λ _. true) 103 c refl (digit_below c h))) [
      | inl other ↦ let e : not true ≡ true = ap not (sym h) ∙ other in cc
      | inr same ↦ same
    ]

some_value : (o : Option ℕ) → unwrap_or o 99 < 16 → o ≡ Some (unwrap_or o 99)
some_value (Some v) h = refl
some_value None h = absurd (omega arith)

-- what a lower-case digit reads as
pub record Digit (c : ℕ) : Type 0 where
  pub number : ℕ
  pub small : number < 16
  pub reads : hex_digit_value c ≡ Some number
  pub writes : slice_index lower_digits number ≡ c

digit : (c : ℕ) → is_lower_digit c ≡ true → Digit c
digit c h =
    let parts = and_parts (nat_lt (value c) 16) (slice_index lower_digits (value c) == c) (digit_reads_back c h) in
    let small : value c < 16 = ltb-true (value c) 16 parts.0 in
    record {
      number = value c;
      small = small;
      reads = some_value (hex_digit_value c) small;
      writes = eqb-true (slice_index lower_digits (value c)) c parts.1;
    }

-- the bytes that pairs of digits read as, and are the text of
pub record Pairs (i : ℕ) (text : List ℕ) : Type 0 where
  pub bytes : List ℕ
  pub reads : decode_pairs i text ≡ Ok bytes
  pub writes : encode_lower bytes ≡ text

pair_reads : (i a b : ℕ) (x : Digit a) (y : Digit b) → pair_value a b i ≡ Ok (x.number * 16 + y.number)
pair_reads i a b x y =
    let high : value_at a i ≡ Ok x.number = ap (digit_or_error a i) x.reads in
    let low : value_at b (i + 1) ≡ Ok y.number = ap (digit_or_error b (i + 1)) y.reads in
    rw (high, low) refl

pair_writes : (a b : ℕ) (x : Digit a) (y : Digit b) (rest : List ℕ) → encode_lower ((x.number * 16 + y.number) ∷ rest) ≡ a ∷ b ∷ encode_lower rest
unfolding encode_with
pair_writes a b x y rest =
    let small = x.small in
    let small_too = y.small in
    let high : (x.number * 16 + y.number) / 16 ≡ x.number = omega arith in
    let low : (x.number * 16 + y.number) % 16 ≡ y.number = omega arith in
    let first : slice_index lower_digits ((x.number * 16 + y.number) / 16) ≡ a = ap (slice_index lower_digits) high ∙ x.writes in
    let second : slice_index lower_digits ((x.number * 16 + y.number) % 16) ≡ b = ap (slice_index lower_digits) low ∙ y.writes in
    λ k. first k ∷ second k ∷ encode_lower rest

pub pairs : (i : ℕ) (text : List ℕ) → length text % 2 ≡ 0 → AllPass is_lower_digit text → Pairs i text
unfolding decode_pairs encode_with
pairs i [] even h = record { bytes = []; reads = refl; writes = refl }
pairs i (a ∷ []) even h = absurd (omega arith)
pairs i (a ∷ b ∷ text) even h =
    let P : ℕ → Type 0 = λ c. is_lower_digit c ≡ true in
    let x = digit a (All-head P a (b ∷ text) h) in
    let tail = All-tail P a (b ∷ text) h in
    let y = digit b (All-head P b text tail) in
    let more = pairs (i + 2) text (omega arith) (All-tail P b text tail) in
    record {
      bytes = (x.number * 16 + y.number) ∷ more.bytes;
      reads = decode_pairs-ok_pair i a b _ text (pair_reads i a b x y) ∙ ap (cons_byte (x.number * 16 + y.number)) more.reads;
      writes = pair_writes a b x y more.bytes ∙ ap (λ (rest : List ℕ). a ∷ b ∷ rest) more.writes;
    }

-- what such a text reads as is written as the text
pub written : (n : ℕ) (text bytes : List ℕ) → AllPass is_lower_digit text → decode_sized text n ≡ Ok bytes → encode_lower bytes ≡ text
written n text bytes digits reads =
    let len = decode_sized-ok text n bytes reads in
    let p = pairs 0 text (omega (arith, len)) digits in
    let same : bytes ≡ p.bytes = decode_of-same text bytes p.bytes
    (sym (decode_sized-twice text n len) ∙ reads) (decode_of-even text (omega (arith, len)) ∙ p.reads) in
    ap encode_lower same ∙ p.writes

-- such a text of the right length reads as something
pub is_read : (n : ℕ) (text : List ℕ) → IsLowerHexadecimal n text → (bytes : List ℕ) × (decode_sized text n ≡ Ok bytes)
is_read n text is =
    let len = is.0 in
    let even : length text % 2 ≡ 0 = omega arith in
    let p = pairs 0 text even is.1 in
    (p.bytes, decode_sized-twice text n is.0 ∙ decode_of-even text even ∙ p.reads)

-- a text that does not read as bytes is no such text
pub not_read : (n : ℕ) (text : List ℕ) (e : FromHexError) → Err e ≡ decode_sized text n → IsLowerHexadecimal n text → ⊥
not_read n text e err is = let r = is_read n text is in let same : Err e ≡ Ok r.0 = err ∙ r.1 in cc

-- the digit of a number below sixteen is a lower-case one
abbrev writes_lower : ℕ → Bool
writes_lower n = is_lower_digit (slice_index lower_digits n)

-- bytes are written in lower-case digits
pub encode_is_lower : (bytes : List ℕ) → IsBytes bytes → AllPass is_lower_digit (encode_lower bytes)
unfolding encode_with
encode_is_lower [] small = All-nil _
encode_is_lower (b ∷ bytes) small =
    let P : ℕ → Type 0 = λ c. is_lower_digit c ≡ true in
    let fits : b < 256 = small 0 in
    let high : b / 16 < 16 = omega arith in
    let low : b % 16 < 16 = omega arith in
    All-cons P (slice_index lower_digits (b / 16)) (slice_index lower_digits (b % 16) ∷ encode_lower bytes)
    (agree_below_at writes_lower (λ _. true) 16 (b / 16) refl high)
    (All-cons P (slice_index lower_digits (b % 16)) (encode_lower bytes)
    (agree_below_at writes_lower (λ _. true) 16 (b % 16) refl low)
    (encode_is_lower bytes (λ k. small (suc k))))
