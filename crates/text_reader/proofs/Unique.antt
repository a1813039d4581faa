-- What stands in front of a text is the only thing of its kind that could.
use Rattle.std.proofs.Common.{◌≡◌, ℕ, ◌+◌, ◌%◌, ◌<◌, ◌^◌, ◌==◌, Bool, true, false, ◌||◌, List, [], ◌∷◌, ◌++◌, length, refl, sym, ap, ◌∙◌, arith}
use Rattle.std.specs.Prelude.{decimal}
use Rattle.std.proofs.lemmas.Bool.{true≢false, eq-eqb, ne_eqb}
use Rattle.std.proofs.lemmas.List.Folds.{list_any-append}
use Rattle.std.proofs.lemmas.Fmt.{decimal_by_steps}
use Rattle.hex.specs.Hex.{IsBytes, decode_of, encode_lower}
use Rattle.hex.proofs.HexLemmas.{decode_of-encode_lower, decode_of-same}
use Rattle.text_reader.specs.Line.{has_byte}

-- equal fronts cancel
pub same_front : (front x y : List ℕ) → front ++ x ≡ front ++ y → x ≡ y
same_front [] x y e = e
same_front (b ∷ front) x y e = let rest : front ++ x ≡ front ++ y = cc in same_front front x y rest

-- fronts of one length are equal
pub same_fronts : (a b x y : List ℕ) → length a ≡ length b → a ++ x ≡ b ++ y → (a ≡ b) × (x ≡ y)
same_fronts [] [] x y len e = (refl, e)
same_fronts [] (c ∷ b) x y len e = absurd (omega arith)
same_fronts (c ∷ a) [] x y len e = absurd (omega arith)
same_fronts (c ∷ a) (d ∷ b) x y len e =
    let head : c ≡ d = cc in
    let rest : a ++ x ≡ b ++ y = cc in
    let both = same_fronts a b x y (omega arith) rest in
    ((λ i. head i ∷ both.0 i), both.1)

either : (a b : Bool) → a ≡ true → (a || b) ≡ false → ⊥
either a b is is_not = true≢false (sym (ap (λ (c : Bool). c || b) is) ∙ is_not)

later : (a b : Bool) → (a || b) ≡ false → b ≡ false
later true b is_not = absurd (true≢false is_not)
later false b is_not = is_not

-- up to the first place where a byte stands, texts are equal
pub same_until : (c : ℕ) (a b x y : List ℕ) → has_byte c a ≡ false → has_byte c b ≡ false → a ++ c ∷ x ≡ b ++ c ∷ y → (a ≡ b) × (x ≡ y)
same_until c [] [] x y p q e = let rest : x ≡ y = cc in (refl, rest)
same_until c [] (d ∷ b) x y p q e =
    let head : d ≡ c = cc in
    absurd (either (d == c) (has_byte c b) (eq-eqb d c head) q)
same_until c (d ∷ a) [] x y p q e =
    let head : d ≡ c = cc in
    absurd (either (d == c) (has_byte c a) (eq-eqb d c head) p)
same_until c (d ∷ a) (f ∷ b) x y p q e =
    let head : d ≡ f = cc in
    let rest : a ++ c ∷ x ≡ b ++ c ∷ y = cc in
    let both = same_until c a b x y (later (d == c) (has_byte c a) p) (later (f == c) (has_byte c b) q) rest in
    ((λ i. head i ∷ both.0 i), both.1)

-- a byte that stands in neither part stands nowhere
pub no_byte : (c : ℕ) (a b : List ℕ) → has_byte c a ≡ false → has_byte c b ≡ false → has_byte c (a ++ b) ≡ false
no_byte c a b p q = list_any-append (λ (d : ℕ). d == c) a b ∙ ap (λ (t : Bool). t || has_byte c b) p ∙ q

one_digit : (d : ℕ) → has_byte 10 ((48 + d) ∷ []) ≡ false
one_digit d = let other : (48 + d == 10) ≡ false = ne_eqb (48 + d) 10 (λ e. omega arith) in ap (λ (t : Bool). t || false) other

-- no line feed stands in a decimal number
pub decimal_line : (n : ℕ) → n < 2 ^ 64 → has_byte 10 (decimal n) ≡ false
decimal_line n small =
    decimal_by_steps (λ m digits. has_byte 10 digits ≡ false) (λ m h. one_digit m)
    (λ m digits h before. no_byte 10 digits ((48 + m % 10) ∷ []) before (one_digit (m % 10))) n small

-- bytes that are written alike in hexadecimal are equal
pub same_hexadecimal : (a b : List ℕ) → IsBytes a → IsBytes b → encode_lower a ≡ encode_lower b → a ≡ b
same_hexadecimal a b ha hb e = decode_of-same (encode_lower a) a b (decode_of-encode_lower a ha) (ap decode_of e ∙ decode_of-encode_lower b hb)

-- a byte that stands between two parts stands in the whole
pub has_byte_here : (c : ℕ) (a b : List ℕ) → has_byte c (a ++ c ∷ b) ≡ true
has_byte_here c a b = list_any-append (λ (d : ℕ). d == c) a (c ∷ b)
    ∙ ap (λ (t : Bool). has_byte c a || (t || has_byte c b)) (eq-eqb c c refl) ∙ or_true (has_byte c a)
  where
    or_true : (t : Bool) → (t || true) ≡ true
    or_true true = refl
    or_true false = refl
