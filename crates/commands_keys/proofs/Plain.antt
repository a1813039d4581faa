-- A text of base64 stands in a string as it is.
use Rattle.std.proofs.Common.{◌≡◌, ◌<◌, ◌+◌, ◌*◌, ◌/◌, ◌%◌, ℕ, zero, suc, Bool, true, false, List, [], ◌∷◌, ◌++◌, length, refl, sym, ap, ◌∙◌, arith, length-append}
use Rattle.std.specs.Prelude.{◌&&◌, not, nat_lt, replicate, slice_index}
use Rattle.std.specs.List.{AllByRecursion}
use Rattle.base64.proofs.RoundTrip.{length-encode_symbols}
use Rattle.base64.proofs.Tables.{all_below_at}
use Rattle.base64.specs.Engines.{standard}
use Rattle.base64.specs.Rfc4648.{encode_symbols, padding_len, unpadded_len}
use Rattle.base64.specs.Tables.{all_below}
use Rattle.hex.specs.Hex.{IsBytes}
use Rattle.json.specs.Print.{escape, escape_byte, escape_letter}
use Rattle.dsse_envelope.specs.Written.{base64_text}

abbrev pub Plain : ℕ → Type 0
Plain x = escape_byte x ≡ x ∷ []

abbrev is_plain : ℕ → Bool
is_plain x = not (nat_lt 0 (escape_letter x)) && not (nat_lt x 32)

plain_by : (b c : Bool) (x : ℕ) → b ≡ nat_lt 0 (escape_letter x) → c ≡ nat_lt x 32 → (not b && not c) ≡ true → Plain x
unfolding escape_byte
plain_by true c x is also e = cc
plain_by false true x is also e = cc
plain_by false false x is also e = rw (sym is) (rw (sym also) refl)

symbols_plain : all_below (λ k. is_plain (slice_index standard.encode_table k)) 64 ≡ true
symbols_plain = refl

symbol_plain : (k : ℕ) → k < 64 → Plain (slice_index standard.encode_table k)
symbol_plain k low = plain_by _ _ (slice_index standard.encode_table k) refl refl (all_below_at (λ k. is_plain (slice_index standard.encode_table k)) 64 k symbols_plain low)

high : (a : ℕ) → a < 256 → a / 4 < 64
high a low = omega arith

middle : (a b : ℕ) → b < 256 → a % 4 * 16 + b / 16 < 64
middle a b low = omega arith

third : (b c : ℕ) → c < 256 → b % 16 * 4 + c / 64 < 64
third b c low = omega arith

low_part : (c : ℕ) → c % 64 < 64
low_part c = omega arith

two_bits : (a : ℕ) → a % 4 * 16 < 64
two_bits a = omega arith

four_bits : (b : ℕ) → b % 16 * 4 < 64
four_bits b = omega arith

all_plain : (m : List ℕ) → IsBytes m → AllByRecursion Plain (encode_symbols standard.encode_table m)
unfolding encode_symbols
all_plain [] bytes = tt
all_plain (a ∷ []) bytes = (symbol_plain _ (high a (bytes 0)), (symbol_plain _ (two_bits a), tt))
all_plain (a ∷ b ∷ []) bytes = (symbol_plain _ (high a (bytes 0)), (symbol_plain _ (middle a b (bytes 1)), (symbol_plain _ (four_bits b), tt)))
all_plain (a ∷ b ∷ c ∷ rest) bytes =
    (symbol_plain _ (high a (bytes 0)), (symbol_plain _ (middle a b (bytes 1)), (symbol_plain _ (third b c (bytes 2)), (symbol_plain _ (low_part c), all_plain rest (λ i. bytes (suc (suc (suc i))))))))

all_more : (xs ys : List ℕ) → AllByRecursion Plain xs → AllByRecursion Plain ys → AllByRecursion Plain (xs ++ ys)
all_more [] ys all more = more
all_more (x ∷ xs) ys all more = (all.0, all_more xs ys all.1 more)

padding_plain : (n : ℕ) → AllByRecursion Plain (replicate n 61)
unfolding escape_byte
padding_plain zero = tt
padding_plain (suc n) = (refl, padding_plain n)

escape_plain : (xs : List ℕ) → AllByRecursion Plain xs → escape xs ≡ xs
escape_plain [] all = refl
escape_plain (x ∷ xs) all = (λ i. all.0 i ++ escape_plain xs all.1 i)

-- the bytes of a text of base64 stand for themselves in a string, and how many there are hangs on the length alone
pub base64_long : (m : List ℕ) → IsBytes m → length (escape (base64_text m)) ≡ length (base64_text m)
base64_long m bytes = ap length (escape_plain (base64_text m) (all_more (encode_symbols standard.encode_table m) (replicate (padding_len (length m)) 61) (all_plain m bytes) (padding_plain (padding_len (length m)))))

pub base64_same : (m n : List ℕ) → length m ≡ length n → length (base64_text m) ≡ length (base64_text n)
base64_same m n same =
    let left = length-append (encode_symbols standard.encode_table m) (replicate (padding_len (length m)) 61) in
    let right = length-append (encode_symbols standard.encode_table n) (replicate (padding_len (length n)) 61) in
    let symbols : length (encode_symbols standard.encode_table m) ≡ length (encode_symbols standard.encode_table n) =
    length-encode_symbols standard.encode_table m ∙ ap unpadded_len same ∙ sym (length-encode_symbols standard.encode_table n) in
    let padding : length {A = ℕ} (replicate (padding_len (length m)) 61) ≡ length {A = ℕ} (replicate (padding_len (length n)) 61) = ap (λ (k : ℕ). length {A = ℕ} (replicate (padding_len k) 61)) same in
    omega (arith, left, right, symbols, padding)
