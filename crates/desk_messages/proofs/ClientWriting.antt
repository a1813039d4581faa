-- The text of a desk's reply is a reply.
use Rattle.std.proofs.Common.{◌≡◌, ◌≤◌, ◌<◌, ◌+◌, ◌/◌, ◌%◌, ◌^◌, ◌==◌, ◌||◌, ◌&&◌, not, ℕ, List, [], ◌∷◌, ◌++◌, Bool, true, false, length, reverse, codes, refl, sym, ap, subst, ◌∙◌, append_assoc, arith, length-append}
use Rattle.std.specs.Prelude.{Some, decimal, nat_eq, nat_le, if◌then◌else◌}
use Rattle.std.specs.List.{AllByRecursion, list_all, list_any}
use Rattle.std.specs.Str.Parse.{digits_value}
use Rattle.std.specs.Char.{is_ascii_digit}
use Rattle.std.proofs.lemmas.Bool.{eqb-true, le-leb, leb-true, ne_eqb, true≢false}
use Rattle.std.proofs.lemmas.Fmt.{decimal_by_steps, length-decimal-le}
use Rattle.std.proofs.lemmas.List.{reverse-append, reverse-reverse}
use Rattle.std.proofs.lemmas.List.Elements.{All-from_recursion}
use Rattle.std.proofs.lemmas.List.Folds.{list_all-append}
use Rattle.std.proofs.lemmas.List.Sums.{AllPass-from_list_all}
use Rattle.http.specs.StatusCode.{code_digits}
use Rattle.httparse.specs.Grammar.{Field, IsField, IsResponseHead, ResponseHead, crlf, is_ows, is_token_byte, is_value_byte, print_response, skip_ows, trim_ows}
use Rattle.desk_messages.specs.Texts.{phrase_of, reply_codes, reply_head}
use Rattle.desk_messages.specs.ClientHeads.{Says, largest_body, largest_head}
use Rattle.desk_messages.specs.ClientLaws.{ReadsTexts}

-- ---- the digits of a length

-- the first byte is no white space
abbrev Begins : List ℕ → Type 0
Begins [] = ⊥
Begins (b ∷ bytes) = is_ows b ≡ false

kept : (bytes : List ℕ) → Begins bytes → skip_ows bytes ≡ bytes
kept [] begins = absurd begins
kept (b ∷ bytes) begins = ap (λ (t : Bool). if t then skip_ows bytes else b ∷ bytes) begins

begins_more : (bytes more : List ℕ) → Begins bytes → Begins (bytes ++ more)
begins_more [] more begins = absurd begins
begins_more (b ∷ bytes) more begins = begins

digit_begins : (d : ℕ) → is_ows (48 + d) ≡ false
digit_begins d =
    let no_space : (48 + d == 32) ≡ false = ne_eqb (48 + d) 32 (λ e. omega arith) in
    let no_tab : (48 + d == 9) ≡ false = ne_eqb (48 + d) 9 (λ e. omega arith) in
    ap (λ (t : Bool). t || (48 + d == 9)) no_space ∙ no_tab

digits_begin : (n : ℕ) → n < 2 ^ 64 → Begins (decimal n) × Begins (reverse (decimal n))
digits_begin n small =
    decimal_by_steps (λ m digits. Begins digits × Begins (reverse digits)) (λ m h. (digit_begins m, digit_begins m))
    (λ m digits h before. (begins_more digits ((48 + m % 10) ∷ []) before.0, subst Begins (sym (reverse-append digits ((48 + m % 10) ∷ []))) (digit_begins (m % 10)))) n small

trimmed : (n : ℕ) → n < 2 ^ 64 → trim_ows (32 ∷ decimal n) ≡ decimal n
unfolding trim_ows
trimmed n small =
    let begins = digits_begin n small in
    ap (λ (bytes : List ℕ). reverse (skip_ows (reverse bytes))) (kept (decimal n) begins.0) ∙ ap reverse (kept (reverse (decimal n)) begins.1) ∙ reverse-reverse (decimal n)

digit_value : (d : ℕ) → d < 10 → is_value_byte (48 + d) ≡ true
digit_value d low =
    let no_tab : (48 + d == 9) ≡ false = ne_eqb (48 + d) 9 (λ e. omega arith) in
    let no_del : (48 + d == 127) ≡ false = ne_eqb (48 + d) 127 (λ e. omega arith) in
    let past : nat_le 32 (48 + d) ≡ true = le-leb 32 (48 + d) (omega arith) in
    ap (λ (t : Bool). t || (nat_le 32 (48 + d) && not (48 + d == 127))) no_tab ∙ ap (λ (t : Bool). t && not (48 + d == 127)) past ∙ ap not no_del

values_more : (bytes : List ℕ) (d : ℕ) → d < 10 → list_all is_value_byte bytes ≡ true → list_all is_value_byte (bytes ++ (48 + d) ∷ []) ≡ true
values_more bytes d low all =
    list_all-append is_value_byte bytes ((48 + d) ∷ []) ∙ ap (λ (t : Bool). t && (is_value_byte (48 + d) && true)) all ∙ ap (λ (t : Bool). t && true) (digit_value d low)

digits_are_values : (n : ℕ) → n < 2 ^ 64 → list_all is_value_byte (decimal n) ≡ true
digits_are_values n small =
    decimal_by_steps (λ m digits. list_all is_value_byte digits ≡ true) (λ m h. ap (λ (t : Bool). t && true) (digit_value m h))
    (λ m digits h before. values_more digits (m % 10) (omega arith) before) n small

-- ---- the codes

record Good (code : ℕ) : Type 0 where
  digits : list_all is_ascii_digit (code_digits code) ≡ true
  phrase : list_all is_value_byte (phrase_of code) ≡ true
  short : nat_le (length (phrase_of code)) 40 ≡ true
  value : digits_value 10 (code_digits code) ≡ code

good : (code : ℕ) → list_all is_ascii_digit (code_digits code) ≡ true → list_all is_value_byte (phrase_of code) ≡ true → nat_le (length (phrase_of code)) 40 ≡ true
    → digits_value 10 (code_digits code) ≡ code → Good code
good code digits phrase short value = record { digits = digits; phrase = phrase; short = short; value = value }

all_good : AllByRecursion Good reply_codes
unfolding phrase_of
all_good = (
  good 200 refl refl refl refl,
  (
    good 201 refl refl refl refl,
    (
      good 400 refl refl refl refl,
      (
        good 403 refl refl refl refl,
        (
          good 404 refl refl refl refl,
          (
            good 405 refl refl refl refl,
            (
              good 409 refl refl refl refl,
              (
                good 411 refl refl refl refl,
                (
                  good 413 refl refl refl refl,
                  (
                    good 422 refl refl refl refl,
                    (
                      good 500 refl refl refl refl,
                      (
                        good 502 refl refl refl refl,
                        (good 503 refl refl refl refl, tt),
                      ),
                    ),
                  ),
                ),
              ),
            ),
          ),
        ),
      ),
    ),
  ),
)

among : (P : ℕ → Type 0) (code : ℕ) (all : List ℕ) → list_any (nat_eq code) all ≡ true → AllByRecursion P all → P code
among P code [] e each = absurd (true≢false (sym e))
among P code (x ∷ all) e each = by_test (nat_eq code x) refl e (λ found. among P code all found each.1)
  where
    by_test : (b : Bool) → nat_eq code x ≡ b → (b || list_any (nat_eq code) all) ≡ true → (list_any (nat_eq code) all ≡ true → P code) → P code
    by_test true same found later = subst P (sym (eqb-true code x same)) each.0
    by_test false other found later = later found

-- ---- the head

abbrev field : List ℕ → List ℕ → Field
field name raw = record { name = name; raw = raw; end = crlf }

abbrev head_of : ℕ → ℕ → ResponseHead
head_of code len = record {
  blank = [];
  minor = 1;
  digits = code_digits code;
  reason = Some (phrase_of code);
  line_end = crlf;
  fields = field (codes "content-type") (codes " text/plain") ∷ field (codes "content-length") (32 ∷ decimal len) ∷ field (codes "connection") (codes " close") ∷ [];
  last = crlf;
}

joined : (p a m d b f e : List ℕ) → (p ++ a) ++ (m ++ (((d ++ b) ++ f) ++ e)) ≡ ((p ++ (a ++ m)) ++ d) ++ (b ++ (f ++ e))
joined p a m d b f e = simp append_assoc

prints : (code len : ℕ) → print_response (head_of code len) ≡ reply_head code len
unfolding print_response
prints code len =
    ap (λ (rest : List ℕ). codes "HTTP/1.1 " ++ (code_digits code ++ (codes " " ++ rest)))
    (joined (phrase_of code) (codes "\r\n") (codes "content-type: text/plain\r\ncontent-length: ") (decimal len) (codes "\r\n") (codes "connection: close\r\n") (codes "\r\n"))

short_text : (x y z : ℕ) (p d : List ℕ) → length p ≤ 40 → length d ≤ 4
    → length (codes "HTTP/1.1 " ++ (x ∷ y ∷ z ∷ []) ++ codes " " ++ p ++ codes "\r\ncontent-type: text/plain\r\ncontent-length: " ++ d ++ codes "\r\nconnection: close\r\n\r\n") ≤ largest_head
short_text x y z p d phrase digits = simp length-append (omega arith)

is_field : (name raw : List ℕ) → 0 < length name → list_all is_token_byte name ≡ true → list_all is_value_byte raw ≡ true → IsField (field name raw)
is_field name raw some token value = record { name = (some, AllPass-from_list_all is_token_byte name token); raw = AllPass-from_list_all is_value_byte raw value }

type_field : IsField (field (codes "content-type") (codes " text/plain"))
unfolding is_token_byte
type_field = is_field (codes "content-type") (codes " text/plain") (omega arith) refl refl

end_field : IsField (field (codes "connection") (codes " close"))
unfolding is_token_byte
end_field = is_field (codes "connection") (codes " close") (omega arith) refl refl

length_field : (len : ℕ) → len < 2 ^ 64 → IsField (field (codes "content-length") (32 ∷ decimal len))
unfolding is_token_byte
length_field len small = is_field (codes "content-length") (32 ∷ decimal len) (omega arith) refl (digits_are_values len small)

is_head : (code len : ℕ) → Good code → len < 2 ^ 64 → IsResponseHead (head_of code len)
is_head code len is small = record {
  minor = omega arith;
  digits = (refl, AllPass-from_list_all is_ascii_digit (code_digits code) is.digits);
  reason = AllPass-from_list_all is_value_byte (phrase_of code) is.phrase;
  fields = All-from_recursion IsField (head_of code len).fields (type_field, (length_field len small, (end_field, tt)));
}

says : (code len : ℕ) → len ≤ largest_body → len < 2 ^ 64 → Says (head_of code len) len
says code len within small = record { said = ap (λ (value : List ℕ). value ∷ []) (trimmed len small); within = within }

pub reads_texts : ReadsTexts
reads_texts code body is within =
    let len = length body in
    let small : len < 2 ^ 64 = omega (arith, within) in
    let of_code = among Good code reply_codes is all_good in
    let phrase : length (phrase_of code) ≤ 40 = leb-true (length (phrase_of code)) 40 of_code.short in
    let digits : length (decimal len) ≤ 4 = length-decimal-le 4 len (omega arith) (omega (arith, within)) small in
    let same = prints code len in
    let short : length (reply_head code len) ≤ largest_head = short_text (48 + code / 100) (48 + code / 10 % 10) (48 + code % 10) (phrase_of code) (decimal len) phrase digits in
    record {
      head = head_of code len;
      has = record {
        reads = (is_head code len of_code small, ap (λ (h : List ℕ). h ++ body) (sym same));
        short = subst (λ (h : List ℕ). length h ≤ largest_head) (sym same) short;
        few = omega arith;
      };
      says = says code len within small;
      code_is = sym of_code.value;
    }
