-- The name by which a mirror keeps an entry of another past is one of a reference.
use Rattle.std.proofs.Common.{◌≡◌, ℕ, suc, ◌-◌, ◌<◌, ◌≤◌, ◌==◌, Bool, true, false, not, ◌&&◌, ◌||◌, List, [], ◌∷◌, ◌++◌, length, inl, inr, refl, sym, ap, subst, ◌∙◌, arith, length-append, drop, take}
use Rattle.std.specs.Prelude.{codes, decimal, nat_le}
use Rattle.std.specs.Bool.{nat_eq}
use Rattle.std.specs.Char.{is_ascii_digit}
use Rattle.std.specs.Cmp.Derive.{both_true}
use Rattle.std.specs.Cmp.Lexicographic.{pointwise}
use Rattle.std.specs.List.{AllPass, list_all, onto_first}
use Rattle.std.specs.Str.{IsAscii}
use Rattle.std.proofs.lemmas.Bool.{and_parts, eq-eqb, leb-true, le-leb, ne_eqb, or_cases, or_left, true≢false}
use Rattle.std.proofs.lemmas.Fmt.{length-decimal-le}
use Rattle.std.proofs.lemmas.List.Elements.{All-head, All-tail, All-weaker}
use Rattle.std.proofs.lemmas.List.Folds.{list_all-append, list_any-append}
use Rattle.std.proofs.lemmas.List.Splits.{slice_split_none, slice_split-cons_no}
use Rattle.std.proofs.lemmas.Str.{IsUtf8-from_ascii}
use Rattle.std.proofs.lemmas.Str.Ascii.{IsAscii-nil}
use Rattle.hex.specs.Hex.{encode_lower}
use Rattle.text_reader.specs.Hexadecimal.{is_lower_digit}
use Rattle.text_reader.specs.Line.{has_byte}
use Rattle.text_reader.specs.Number.{IsNumber}
use Rattle.text_reader.proofs.Numbers.{decimal_is_number}
use Rattle.git_object.specs.Ids.{IsId}
use Rattle.git_object.specs.Names.{IsRefName, components, has_pair, is_component, is_plain}
use Rattle.git_object.proofs.IdLemmas.{id_is_lower, length-hexadecimal}
use Rattle.mirror.specs.Names.{fork_name}
use Prim.Native.Nat as Nat

-- ---- bytes of digits

or_false : (a b : Bool) → (a || b) ≡ false → (a ≡ false) × (b ≡ false)
or_false true b e = absurd (true≢false e)
or_false false b e = (refl, e)

both_false : (a b : Bool) → a ≡ false → b ≡ false → (a || b) ≡ false
both_false true b e f = absurd (true≢false e)
both_false false b e f = f

digits_lack : (c : ℕ) (text : List ℕ) → is_lower_digit c ≡ false → AllPass is_lower_digit text → has_byte c text ≡ false
digits_lack c [] other all = refl
digits_lack c (d ∷ text) other all =
    let P : ℕ → Type 0 = λ x. is_lower_digit x ≡ true in
    let here : (d == c) ≡ false = ne_eqb d c (λ same. true≢false (sym (All-head P d text all) ∙ ap is_lower_digit same ∙ other)) in
    both_false (d == c) (has_byte c text) here (digits_lack c text other (All-tail P d text all))

lacks_append : (c : ℕ) (a b : List ℕ) → has_byte c a ≡ false → has_byte c b ≡ false → has_byte c (a ++ b) ≡ false
lacks_append c a b p q = list_any-append (λ (d : ℕ). d == c) a b ∙ both_false (has_byte c a) (has_byte c b) p q

-- a decimal digit is one of hexadecimal text
decimals : (text : List ℕ) → AllPass is_ascii_digit text → AllPass is_lower_digit text
decimals text all = All-weaker (λ (c : ℕ). is_ascii_digit c ≡ true) (λ (c : ℕ). is_lower_digit c ≡ true)
    (λ c h. or_left (nat_le 48 c && nat_le c 57) (nat_le 97 c && nat_le c 102) h) text all

others : (b : ℕ) → 33 ≤ b → (b ≡ 127 → ⊥) → (b ≡ 126 → ⊥) → (b ≡ 94 → ⊥) → (b ≡ 58 → ⊥) → (b ≡ 63 → ⊥) → (b ≡ 42 → ⊥) → (b ≡ 91 → ⊥) → (b ≡ 92 → ⊥) → is_plain b ≡ true
others b low a1 a2 a3 a4 a5 a6 a7 a8 =
    let one = both_false (b == 126) (b == 94) (ne_eqb b 126 a2) (ne_eqb b 94 a3) in
    let two = both_false (b == 126 || b == 94) (b == 58) one (ne_eqb b 58 a4) in
    let three = both_false (b == 126 || b == 94 || b == 58) (b == 63) two (ne_eqb b 63 a5) in
    let four = both_false (b == 126 || b == 94 || b == 58 || b == 63) (b == 42) three (ne_eqb b 42 a6) in
    let five = both_false (b == 126 || b == 94 || b == 58 || b == 63 || b == 42) (b == 91) four (ne_eqb b 91 a7) in
    let six = both_false (b == 126 || b == 94 || b == 58 || b == 63 || b == 42 || b == 91) (b == 92) five (ne_eqb b 92 a8) in
    both_true (both_true (le-leb 33 b low) (ap not (ne_eqb b 127 a1))) (ap not six)

plain_digit : (b : ℕ) → is_lower_digit b ≡ true → is_plain b ≡ true
plain_digit b h = elim (or_cases (nat_le 48 b && nat_le b 57) (nat_le 97 b && nat_le b 102) h) [
  | inl d ↦
      let p : 48 ≤ b = leb-true 48 b (and_parts (nat_le 48 b) (nat_le b 57) d).0 in
      let q : b ≤ 57 = leb-true b 57 (and_parts (nat_le 48 b) (nat_le b 57) d).1 in
      others b (omega arith) (λ e. omega arith) (λ e. omega arith) (λ e. omega arith) (λ e. omega arith) (λ e. omega arith) (λ e. omega arith) (λ e. omega arith) (λ e. omega arith)
  | inr d ↦
      let p : 97 ≤ b = leb-true 97 b (and_parts (nat_le 97 b) (nat_le b 102) d).0 in
      let q : b ≤ 102 = leb-true b 102 (and_parts (nat_le 97 b) (nat_le b 102) d).1 in
      others b (omega arith) (λ e. omega arith) (λ e. omega arith) (λ e. omega arith) (λ e. omega arith) (λ e. omega arith) (λ e. omega arith) (λ e. omega arith) (λ e. omega arith)
]

plain_digits : (text : List ℕ) → AllPass is_lower_digit text → list_all is_plain text ≡ true
plain_digits [] all = refl
plain_digits (b ∷ text) all =
    let P : ℕ → Type 0 = λ x. is_lower_digit x ≡ true in
    both_true (plain_digit b (All-head P b text all)) (plain_digits text (All-tail P b text all))

low_digit : (b : ℕ) → is_lower_digit b ≡ true → nat_le b 127 ≡ true
low_digit b h = elim (or_cases (nat_le 48 b && nat_le b 57) (nat_le 97 b && nat_le b 102) h) [
  | inl d ↦ let q : b ≤ 57 = leb-true b 57 (and_parts (nat_le 48 b) (nat_le b 57) d).1 in le-leb b 127 (omega arith)
  | inr d ↦ let q : b ≤ 102 = leb-true b 102 (and_parts (nat_le 97 b) (nat_le b 102) d).1 in le-leb b 127 (omega arith)
]

low_digits : (text : List ℕ) → AllPass is_lower_digit text → list_all (λ b. nat_le b 127) text ≡ true
low_digits [] all = refl
low_digits (b ∷ text) all =
    let P : ℕ → Type 0 = λ x. is_lower_digit x ≡ true in
    both_true (low_digit b (All-head P b text all)) (low_digits text (All-tail P b text all))

ascii : (text : List ℕ) → list_all (λ b. nat_le b 127) text ≡ true → IsAscii text
ascii [] low i = IsAscii-nil i
ascii (b ∷ text) low Nat.zero = let q : b ≤ 127 = leb-true b 127 (and_parts (nat_le b 127) (list_all (λ c. nat_le c 127) text) low).0 in omega arith
ascii (b ∷ text) low (suc i) = ascii text (and_parts (nat_le b 127) (list_all (λ c. nat_le c 127) text) low).1 i

-- ---- a dot stands nowhere

lacks_drop : (c k : ℕ) (text : List ℕ) → has_byte c text ≡ false → has_byte c (drop k text) ≡ false
lacks_drop c Nat.zero text none = none
lacks_drop c (suc k) [] none = refl
lacks_drop c (suc k) (b ∷ text) none = lacks_drop c k text (or_false (b == c) (has_byte c text) none).1

lacks_take : (c k : ℕ) (text : List ℕ) → has_byte c text ≡ false → has_byte c (take k text) ≡ false
lacks_take c Nat.zero text none = refl
lacks_take c (suc k) [] none = refl
lacks_take c (suc k) (b ∷ text) none =
    let parts = or_false (b == c) (has_byte c text) none in
    both_false (b == c) (has_byte c (take k text)) parts.0 (lacks_take c k text parts.1)

no_match : (needle text : List ℕ) → has_byte 46 text ≡ false → pointwise nat_eq (46 ∷ needle) text ≡ false
no_match needle [] none = refl
no_match needle (b ∷ text) none =
    let other = (or_false (b == 46) (has_byte 46 text) none).0 in
    ap (λ (t : Bool). t && pointwise nat_eq needle text) (ne_eqb 46 b (λ same. true≢false (sym (eq-eqb b 46 (sym same)) ∙ other)))

lacks_pair : (x y : ℕ) (text : List ℕ) → has_byte x text ≡ false → has_pair x y text ≡ false
lacks_pair x y [] none = refl
lacks_pair x y (b ∷ []) none = refl
lacks_pair x y (b ∷ c ∷ text) none =
    let parts = or_false (b == x) (has_byte x (c ∷ text)) none in
    both_false (b == x && c == y) (has_pair x y (c ∷ text)) (ap (λ (t : Bool). t && c == y) parts.0) (lacks_pair x y (c ∷ text) parts.1)

component : (text : List ℕ) → 0 < length text → has_byte 46 text ≡ false → is_component text ≡ true
component text some none =
    let long : (length text == 0) ≡ false = ne_eqb (length text) 0 (λ e. omega (arith, some, e)) in
    let first = no_match [] (take 1 text) (lacks_take 46 1 text none) in
    let last = no_match (codes "lock") (drop (length text - 5) text) (lacks_drop 46 (length text - 5) text none) in
    both_true (both_true (ap not long) (ap not first)) (ap not last)

-- ---- the parts of the name

word_part : (word rest : List ℕ) → AllPass is_lower_digit word → components (word ++ 47 ∷ rest) ≡ word ∷ components rest
word_part [] rest all = refl
word_part (b ∷ word) rest all =
    let P : ℕ → Type 0 = λ x. is_lower_digit x ≡ true in
    let other : (b == 47) ≡ false = ne_eqb b 47 (λ same. true≢false (sym (All-head P b word all) ∙ ap is_lower_digit same)) in
    slice_split-cons_no (λ c. c == 47) b (word ++ 47 ∷ rest) other ∙ ap (onto_first b) (word_part word rest (All-tail P b word all))

last_part : (word : List ℕ) → AllPass is_lower_digit word → components word ≡ word ∷ []
last_part word all = slice_split_none (λ c. c == 47) word (All-weaker (λ (c : ℕ). is_lower_digit c ≡ true) (λ (c : ℕ). (c == 47) ≡ false)
    (λ c h. ne_eqb c 47 (λ same. true≢false (sym h ∙ ap is_lower_digit same))) word all)

pub fork_is_named : (number : ℕ) (id : List ℕ) → number ≤ 1000000 → IsId id → IsRefName (fork_name number id)
fork_is_named number id few is = record {
  begins = refl;
  utf8 = IsUtf8-from_ascii (fork_name number id) (ascii (fork_name number id) low);
  short = let d = length-decimal-le 7 number (omega arith) (omega (arith, few)) (omega (arith, few)) in
      let h = length-hexadecimal id is in
      let whole = length-append digits (47 ∷ hex) in
      omega (arith, d, h, whole);
  few = subst (λ (parts : List (List ℕ)). length parts ≤ 16) (sym parts_are) (omega arith);
  whole = ap (list_all is_component) parts_are ∙ both_true (component digits number_is.some (lacks digits a)) (both_true (component hex some (lacks hex b)) refl);
  plain = list_all-append is_plain digits (47 ∷ hex) ∙ both_true (plain_digits digits a) (plain_digits hex b);
  no_dots = lacks_pair 46 46 (fork_name number id) dotless;
  no_at = lacks_pair 64 123 (fork_name number id) (lacks_append 64 digits (47 ∷ hex) (digits_lack 64 digits refl a) (digits_lack 64 hex refl b));
  no_dot_last = no_match [] (drop (length (fork_name number id) - 1) (fork_name number id)) (lacks_drop 46 (length (fork_name number id) - 1) (fork_name number id) dotless);
}
  where
    digits : List ℕ
    digits = decimal number

    hex : List ℕ
    hex = encode_lower id

    number_is : IsNumber digits
    number_is = decimal_is_number number (omega (arith, few))

    a : AllPass is_lower_digit digits
    a = decimals digits number_is.digits

    b : AllPass is_lower_digit hex
    b = (id_is_lower id is).1

    some : 0 < length hex
    some = let h = length-hexadecimal id is in omega (arith, h)

    lacks : (text : List ℕ) → AllPass is_lower_digit text → has_byte 46 text ≡ false
    lacks text all = digits_lack 46 text refl all

    dotless : has_byte 46 (fork_name number id) ≡ false
    dotless = lacks_append 46 digits (47 ∷ hex) (lacks digits a) (lacks hex b)

    low : list_all (λ c. nat_le c 127) (fork_name number id) ≡ true
    low = list_all-append (λ (c : ℕ). nat_le c 127) digits (47 ∷ hex) ∙ both_true (low_digits digits a) (low_digits hex b)

    parts_are : components (fork_name number id) ≡ codes "refs" ∷ codes "mirror" ∷ codes "fork" ∷ digits ∷ hex ∷ []
    parts_are = ap (λ (parts : List (List ℕ)). codes "refs" ∷ codes "mirror" ∷ codes "fork" ∷ parts) (word_part digits hex a ∙ ap (λ (parts : List (List ℕ)). digits ∷ parts) (last_part hex b))
