-- Bytes that do not stand in what is written; so no line of it holds a line feed.
use Rattle.std.proofs.Common.{◌≡◌, ℕ, zero, suc, ◌+◌, ◌*◌, ◌/◌, ◌%◌, ◌<◌, ◌≤◌, ◌^◌, ◌==◌, Bool, true, false, not, ◌&&◌, ◌||◌, List, [], ◌∷◌, ◌++◌, map, length, inl, inr, refl, ap, ◌∙◌, arith}
use Rattle.std.specs.Prelude.{decimal, nat_le, replicate, slice_index}
use Rattle.std.specs.Char.{is_ascii_digit}
use Rattle.std.specs.List.{AllByRecursion, list_all}
use Rattle.std.proofs.lemmas.Bool.{and_parts, leb-true, ne_eqb, or_cases}
use Rattle.std.proofs.lemmas.List.Sums.{list_all-from_AllPass}
use Rattle.base64.specs.Engines.{standard}
use Rattle.base64.specs.GeneralPurpose.{encode_of}
use Rattle.base64.specs.Rfc4648.{encode_symbols, padding_len}
use Rattle.hex.specs.Hex.{encode_lower}
use Rattle.text_reader.specs.Hexadecimal.{is_lower_digit}
use Rattle.text_reader.specs.Line.{has_byte}
use Rattle.text_reader.proofs.Unique.{no_byte}
use Rattle.text_reader.proofs.Numbers.{decimal_is_number}
use Rattle.git_object.specs.Ids.{IsId}
use Rattle.git_object.specs.Names.{IsRefName, is_plain, is_special}
use Rattle.git_object.proofs.IdLemmas.{id_is_lower}

abbrev pub Lacks : ℕ → List ℕ → Type 0
Lacks b text = has_byte b text ≡ false

abbrev pub Plain : List ℕ → Type 0
Plain line = Lacks 10 line

abbrev pub AllPlain : List (List ℕ) → Type 0
AllPlain ls = AllByRecursion Plain ls

-- ---- bytes above the line feed

other_byte : (c : ℕ) (more : Bool) → 11 ≤ c → more ≡ false → ((c == 10) || more) ≡ false
other_byte c more high is = ap (λ (t : Bool). t || more) (ne_eqb c 10 (λ e. omega (arith, high, e))) ∙ is

high_text : (test : ℕ → Bool) → ((c : ℕ) → test c ≡ true → 11 ≤ c) → (text : List ℕ) → list_all test text ≡ true → Plain text
high_text test high [] all = refl
high_text test high (c ∷ text) all =
    let parts = and_parts (test c) (list_all test text) all in
    other_byte c (has_byte 10 text) (high c parts.0) (high_text test high text parts.1)

decimal_high : (c : ℕ) → is_ascii_digit c ≡ true → 11 ≤ c
decimal_high c h = let p : 48 ≤ c = leb-true 48 c (and_parts (nat_le 48 c) (nat_le c 57) h).0 in omega (arith, p)

digit_high : (c : ℕ) → is_lower_digit c ≡ true → 11 ≤ c
digit_high c h = elim (or_cases (nat_le 48 c && nat_le c 57) (nat_le 97 c && nat_le c 102) h) [
  | inl d ↦ let p : 48 ≤ c = leb-true 48 c (and_parts (nat_le 48 c) (nat_le c 57) d).0 in omega (arith, p)
  | inr d ↦ let p : 97 ≤ c = leb-true 97 c (and_parts (nat_le 97 c) (nat_le c 102) d).0 in omega (arith, p)
]

plain_high : (c : ℕ) → is_plain c ≡ true → 11 ≤ c
plain_high c h =
    let first = and_parts (nat_le 33 c && not (c == 127)) (not (is_special c)) h in
    let low : 33 ≤ c = leb-true 33 c (and_parts (nat_le 33 c) (not (c == 127)) first.0).0 in
    omega (arith, low)

pub id_plain : (id : List ℕ) → IsId id → Plain (encode_lower id)
id_plain id is = let lower = id_is_lower id is in high_text is_lower_digit digit_high (encode_lower id) (list_all-from_AllPass is_lower_digit (encode_lower id) lower.1)

pub name_plain : (name : List ℕ) → IsRefName name → Plain name
name_plain name is = high_text is_plain plain_high name is.plain

pub decimal_plain : (n : ℕ) → n < 2 ^ 64 → Plain (decimal n)
decimal_plain n small =
    let is = decimal_is_number n small in
    high_text is_ascii_digit decimal_high (decimal n) (list_all-from_AllPass is_ascii_digit (decimal n) is.digits)

-- ---- base64

first_false : (a b : Bool) → (a || b) ≡ false → a ≡ false
first_false true b e = e
first_false false b e = refl

rest_false : (a b : Bool) → (a || b) ≡ false → b ≡ false
rest_false true b e = cc e
rest_false false b e = e

pub no_item : (b : ℕ) (t : List ℕ) (i : ℕ) → (0 == b) ≡ false → Lacks b t → (slice_index t i == b) ≡ false
no_item b [] i other none = other
no_item b (c ∷ t) zero other none = first_false (c == b) (has_byte b t) none
no_item b (c ∷ t) (suc i) other none = no_item b t i other (rest_false (c == b) (has_byte b t) none)

one : (b c : ℕ) (more : List ℕ) → (c == b) ≡ false → Lacks b more → Lacks b (c ∷ more)
one b c more first rest = ap (λ (t : Bool). t || has_byte b more) first ∙ rest

items_lack : (b : ℕ) (t places more : List ℕ) → (0 == b) ≡ false → Lacks b t → Lacks b more → Lacks b (map (slice_index t) places ++ more)
items_lack b t [] more other none rest = rest
items_lack b t (i ∷ places) more other none rest = one b (slice_index t i) (map (slice_index t) places ++ more) (no_item b t i other none) (items_lack b t places more other none rest)

-- the symbols of a message are those of the table
pub symbols_lack : (b : ℕ) (t m : List ℕ) → (0 == b) ≡ false → Lacks b t → Lacks b (encode_symbols t m)
unfolding encode_symbols
symbols_lack b t [] other none = refl
symbols_lack b t (x ∷ []) other none = items_lack b t (x / 4 ∷ x % 4 * 16 ∷ []) [] other none refl
symbols_lack b t (x ∷ y ∷ []) other none = items_lack b t (x / 4 ∷ (x % 4 * 16 + y / 16) ∷ y % 16 * 4 ∷ []) [] other none refl
symbols_lack b t (x ∷ y ∷ z ∷ rest) other none =
    items_lack b t (x / 4 ∷ (x % 4 * 16 + y / 16) ∷ (y % 16 * 4 + z / 64) ∷ z % 64 ∷ []) (encode_symbols t rest) other none (symbols_lack b t rest other none)

fill_lacks : (b k : ℕ) → (61 == b) ≡ false → Lacks b (replicate k 61)
fill_lacks b zero other = refl
fill_lacks b (suc k) other = one b 61 (replicate k 61) other (fill_lacks b k other)

pub base64_lacks : (b : ℕ) (m : List ℕ) → (0 == b) ≡ false → (61 == b) ≡ false → Lacks b standard.encode_table → Lacks b (encode_of standard m)
base64_lacks b m other no_fill none =
    no_byte b (encode_symbols standard.encode_table m) (replicate (padding_len (length m)) 61) (symbols_lack b standard.encode_table m other none)
    (fill_lacks b (padding_len (length m)) no_fill)
