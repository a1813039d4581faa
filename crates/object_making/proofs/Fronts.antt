-- What stands in front of a text is one row at most.
use Rattle.std.proofs.Common.{◌≡◌, ◌≤◌, ◌<◌, ◌+◌, ◌^◌, ◌%◌, ◌==◌, ◌||◌, ℕ, Bool, false, List, [], ◌∷◌, ◌++◌, length, sym, ap, ◌∙◌, subst, arith}
use Rattle.std.specs.Prelude.{decimal}
use Rattle.std.proofs.lemmas.Bool.{false≢true, ne_eqb}
use Rattle.std.proofs.lemmas.Fmt.{decimal_by_steps}
use Rattle.text_reader.proofs.Numbers.{decimal_is_number, number_of-decimal}
use Rattle.text_reader.proofs.Unique.{has_byte_here, no_byte, same_fronts, same_until}
use Rattle.text_reader.specs.Line.{has_byte}
use Rattle.text_reader.specs.Number.{IsNumber, number_of}
use Rattle.git_object.proofs.TreeLemmas.{same_mode}
use Rattle.object_making.specs.Rows.{IsRow, Row, row_then}

one_digit : (d : ℕ) → has_byte 32 ((48 + d) ∷ []) ≡ false
one_digit d = let other : (48 + d == 32) ≡ false = ne_eqb (48 + d) 32 (λ e. omega arith) in ap (λ (t : Bool). t || false) other

-- no space stands in a decimal number
decimal_word : (n : ℕ) → n < 2 ^ 64 → has_byte 32 (decimal n) ≡ false
decimal_word n small =
    decimal_by_steps (λ m digits. has_byte 32 digits ≡ false) (λ m h. one_digit m)
    (λ m digits h before. no_byte 32 digits ((48 + m % 10) ∷ []) before (one_digit (m % 10))) n small

-- the word before a space is the number that is written there
pub same_word : (word x y : List ℕ) (n : ℕ) → n ≤ 16777216 → has_byte 32 word ≡ false → word ++ 32 ∷ x ≡ decimal n ++ 32 ∷ y → (word ≡ decimal n) × (x ≡ y)
same_word word x y n small plain same = same_until 32 word (decimal n) x y plain (decimal_word n (omega (arith, small))) same

-- no space stands in the text
pub no_space : (text x : List ℕ) (n : ℕ) → has_byte 32 text ≡ false → text ≡ decimal n ++ 32 ∷ x → ⊥
no_space text x n none same = false≢true (sym none ∙ ap (has_byte 32) same ∙ has_byte_here 32 (decimal n) x)

pub no_line : (text path x : List ℕ) → has_byte 10 text ≡ false → text ≡ path ++ 10 ∷ x → ⊥
no_line text path x none same = false≢true (sym none ∙ ap (has_byte 10) same ∙ has_byte_here 10 path x)

pub is_number : (word : List ℕ) (n : ℕ) → n ≤ 16777216 → word ≡ decimal n → IsNumber word
is_number word n small same = subst IsNumber (sym same) (decimal_is_number n (omega (arith, small)))

pub not_past : (word : List ℕ) (n : ℕ) → n ≤ 16777216 → word ≡ decimal n → 16777216 < number_of word → ⊥
not_past word n small same past =
    let is : number_of word ≡ n = ap number_of same ∙ number_of-decimal n (omega (arith, small)) in
    omega (arith, is, small, past)

pub same_size : (m n : ℕ) (x y : List ℕ) → m ≤ 16777216 → n ≤ 16777216 → decimal m ++ 32 ∷ x ≡ decimal n ++ 32 ∷ y → (m ≡ n) × (x ≡ y)
same_size m n x y few less same =
    let both = same_word (decimal m) x y n less (decimal_word m (omega (arith, few))) same in
    (sym (number_of-decimal m (omega (arith, few))) ∙ ap number_of both.0 ∙ number_of-decimal n (omega (arith, less)), both.1)

-- one row and what follows it
pub same_row : (r s : Row) (x y : List ℕ) → IsRow r → IsRow s → row_then r x ≡ row_then s y → (r ≡ s) × (x ≡ y)
same_row r s x y is other same =
    let modes = same_mode r.mode s.mode _ _ same in
    let sizes = same_size (length r.body) (length s.body) _ _ is.small other.small modes.1 in
    let paths = same_until 10 r.path s.path _ _ is.line other.line sizes.1 in
    let bodies = same_fronts r.body s.body (10 ∷ x) (10 ∷ y) sizes.0 paths.1 in
    let rest : x ≡ y = tail x y bodies.1 in
    ((λ i. record { mode = modes.0 i; path = paths.0 i; body = bodies.0 i }), rest)
  where
    tail : (x y : List ℕ) → 10 ∷ x ≡ 10 ∷ y → x ≡ y
    tail x y e = cc
