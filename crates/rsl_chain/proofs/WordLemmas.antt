-- What stands in a line, by the clauses of the leaves that read it.
use Rattle.std.proofs.Common.{◌≡◌, ◌≢◌, ℕ, ◌≤◌, ◌<◌, ◌==◌, Bool, true, false, not, ◌&&◌, ◌||◌, List, [], ◌∷◌, ◌++◌, length, take, take_all, drop, min, Bor, Option, Some, None, Ok, Err, refl, sym, ap, subst, ◌∙◌, arith, inl, inr}
use Rattle.std.specs.Prelude.{◌↔◌, IfSome, IfNone, IsSome, cond, decimal, nat_le, slice_index, if◌then◌else◌}
use Rattle.std.specs.Char.{is_ascii_digit}
use Rattle.std.specs.Cmp.Derive.{both_true}
use Rattle.std.specs.List.{list_all}
use Rattle.std.specs.Option.{option_copied}
use Rattle.std.specs.Result.{result_ok}
use Rattle.std.specs.Str.{bytes_eq}
use Rattle.std.proofs.lemmas.Bool.{and_parts, cases_eq, cases_lt, eq-eqb, eqb-true, false≢true, le-leb, leb-true, ne_eqb}
use Rattle.std.proofs.Math.ListN.{drop_of_length-le}
use Rattle.std.proofs.lemmas.List.Sums.{AllPass-from_list_all, list_all-from_AllPass}
use Rattle.base64.specs.declared.decode.DecodeError.{DecodeError}
use Rattle.base64.specs.Engines.{standard}
use Rattle.base64.specs.GeneralPurpose.{decode_of, decoded_of}
use Rattle.base64.proofs.Streams.{decoded_of-ok}
use Rattle.hex.specs.Hex.{decode_of as hex_decode_of, encode_lower}
use Rattle.hex.proofs.HexLemmas.{decode_of-encode_lower}
use Rattle.text_reader.specs.Hexadecimal.{IsLowerHexadecimal, is_lower_digit}
use Rattle.text_reader.specs.Number.{IsNumber, number_of}
use Rattle.text_reader.proofs.Numbers.{decimal_is_number, number_of-decimal}
use Rattle.git_object.specs.Ids.{IsId}
use Rattle.git_object.specs.Names.{IsRefName, is_ref_name, log_name}
use Rattle.git_object.proofs.IdLemmas.{id_is_lower}
use Rattle.git_object.proofs.NameTests.{name_from_test, test_from_name}
use Rattle.rsl_chain.specs.Lines.{decoded, id_text, is_number, name_text, number_text, strip}

-- ---- words

strip_front_of : (word rest : List ℕ) → strip word (word ++ rest) ≡ Some rest
strip_front_of [] rest = refl
strip_front_of (c ∷ word) rest = ap (λ (b : Bool). cond b (strip word (word ++ rest)) None) (eq-eqb c c refl) ∙ strip_front_of word rest

pub strip_there : (word line rest : List ℕ) → line ≡ word ++ rest → strip word line ≡ Some rest
strip_there word line rest is = ap (strip word) is ∙ strip_front_of word rest

pub strip_none : (word line : List ℕ) → ((rest : List ℕ) → line ≢ word ++ rest) → strip word line ≡ None
strip_none [] line never = absurd (never line refl)
strip_none (c ∷ word) [] never = refl
strip_none (c ∷ word) (d ∷ line) never = elim (cases_eq c d) [
  | inl same ↦
      ap (λ (b : Bool). cond b (strip word line) None) (eq-eqb c d same)
      ∙ strip_none word line (λ rest is. never rest (λ i. sym same i ∷ is i))
  | inr other ↦ ap (λ (b : Bool). cond b (strip word line) None) (ne_eqb c d other)
]

-- ---- ids

pub id_there : (text id : List ℕ) → encode_lower id ≡ text → IsId id → id_text text ≡ Some id
unfolding id_text
id_there text id is of_id =
    let lower = subst (IsLowerHexadecimal 32) is (id_is_lower id of_id) in
    let long : (length text == 64) ≡ true = eq-eqb (length text) 64 lower.0 in
    let test = both_true long (list_all-from_AllPass is_lower_digit text lower.1) in
    ap (λ (b : Bool). if b then result_ok (hex_decode_of text) else None) test
    ∙ ap (λ (t : List ℕ). result_ok (hex_decode_of t)) (sym is) ∙ ap result_ok (decode_of-encode_lower id of_id.bytes)

id_unless : (text : List ℕ) (b : Bool) → (length text == 64 && list_all is_lower_digit text) ≡ b → (IsLowerHexadecimal 32 text → ⊥) → (if b then result_ok (hex_decode_of text) else None) ≡ None
id_unless text true is never =
    let parts = and_parts (length text == 64) (list_all is_lower_digit text) is in
    absurd (never (eqb-true (length text) 64 parts.0, AllPass-from_list_all is_lower_digit text parts.1))
id_unless text false is never = refl

pub id_none : (text : List ℕ) → (IsLowerHexadecimal 32 text → ⊥) → id_text text ≡ None
unfolding id_text
id_none text never = id_unless text (length text == 64 && list_all is_lower_digit text) refl never

-- ---- numbers

one_form_test : (text : List ℕ) → IsNumber text → (not (slice_index text 0 == 48) || length text == 1) ≡ true
one_form_test text is = elim (cases_eq (slice_index text 0) 48) [
  | inl zero_first ↦
      ap (λ (b : Bool). not b || length text == 1) (eq-eqb (slice_index text 0) 48 zero_first) ∙ eq-eqb (length text) 1 (is.one_form zero_first)
  | inr other ↦ ap (λ (b : Bool). not b || length text == 1) (ne_eqb (slice_index text 0) 48 other)
]

pub number_test : (text : List ℕ) → IsNumber text → is_number text ≡ true
number_test text is =
    let some : 0 < length text = is.some in
    let filled : (length text == 0) ≡ false = ne_eqb (length text) 0 (λ e. omega arith) in
    both_true (both_true (ap not filled) (list_all-from_AllPass is_ascii_digit text is.digits)) (one_form_test text is)

from_not : (b : Bool) → not b ≡ true → b ≡ false
from_not true never = absurd (false≢true never)
from_not false is = refl

from_one_form : (text : List ℕ) → (not (slice_index text 0 == 48) || length text == 1) ≡ true → slice_index text 0 ≡ 48 → length text ≡ 1
from_one_form text test zero_first =
    eqb-true (length text) 1 (sym (ap (λ (b : Bool). not b || length text == 1) (eq-eqb (slice_index text 0) 48 zero_first)) ∙ test)

pub number_from_test : (text : List ℕ) → is_number text ≡ true → IsNumber text
number_from_test text test =
    let both = and_parts (not (length text == 0) && list_all is_ascii_digit text) (not (slice_index text 0 == 48) || length text == 1) test in
    let first = and_parts (not (length text == 0)) (list_all is_ascii_digit text) both.0 in
    record {
      digits = AllPass-from_list_all is_ascii_digit text first.1;
      some = filled (length text) (from_not (length text == 0) first.0);
      one_form = from_one_form text both.1;
    }
  where
    filled : (n : ℕ) → (n == 0) ≡ false → 0 < n
    filled n other = elim (cases_eq n 0) [
      | inl zero ↦ absurd (false≢true (sym other ∙ eq-eqb n 0 zero))
      | inr some ↦ omega arith
    ]

pub number_there : (text : List ℕ) (n : ℕ) → text ≡ decimal n → n ≤ 1000000 → number_text text ≡ Some n
unfolding number_text
number_there text n is small =
    let value : number_of text ≡ n = ap number_of is ∙ number_of-decimal n (omega arith) in
    let test = both_true (number_test text (subst IsNumber (sym is) (decimal_is_number n (omega arith)))) (le-leb (number_of text) 1000000 (omega arith)) in
    ap (λ (b : Bool). if b then Some (number_of text) else None) test ∙ ap Some value

number_unless : (text : List ℕ) (b : Bool) → (is_number text && nat_le (number_of text) 1000000) ≡ b → (IsNumber text → number_of text ≤ 1000000 → ⊥) → (if b then Some (number_of text) else None) ≡ None
number_unless text true is never =
    let parts = and_parts (is_number text) (nat_le (number_of text) 1000000) is in
    absurd (never (number_from_test text parts.0) (leb-true (number_of text) 1000000 parts.1))
number_unless text false is never = refl

pub number_none : (text : List ℕ) → (IsNumber text → number_of text ≤ 1000000 → ⊥) → number_text text ≡ None
unfolding number_text
number_none text never = number_unless text (is_number text && nat_le (number_of text) 1000000) refl never

pub number_past : (text : List ℕ) → IsNumber text × (1000000 < number_of text) → number_text text ≡ None
number_past text past = number_none text (λ is small. let more = past.1 in absurd (omega arith))

pub no_number : (text : List ℕ) → (IsNumber text → ⊥) → number_text text ≡ None
no_number text never = number_none text (λ is small. never is)

-- ---- what the leaves answer

pub strip_is : (word line : List ℕ) (o : Option (Bor (List ℕ))) → IfSome o (λ rest. line ≡ word ++ rest.now) → IfNone o ((rest : List ℕ) → line ≢ word ++ rest) → option_copied o ≡ strip word line
strip_is word line None found none = sym (strip_none word line none)
strip_is word line (Some rest) found none = sym (strip_there word line rest.now found)

pub id_is : (text : List ℕ) (o : Option (List ℕ)) → (IsSome o ↔ IsLowerHexadecimal 32 text) → IfSome o (λ id. encode_lower id ≡ text) → IfSome o IsId → o ≡ id_text text
id_is text None found value valid = sym (id_none text (λ lower. false≢true (found.1 lower)))
id_is text (Some id) found value valid = sym (id_there text id value valid)

pub name_there : (text name : List ℕ) → bytes_eq text log_name ≡ false → name ≡ text → IsRefName name → Some name ≡ name_text text
name_there text name other same is =
    let test = both_true (test_from_name text (subst IsRefName same is)) (ap not other) in
    ap Some same ∙ sym (ap (λ (b : Bool). if b then Some text else None) test)

pub log_is_none : (text : List ℕ) → bytes_eq text log_name ≡ true → None ≡ name_text text
log_is_none text is = sym (ap (λ (b : Bool). if is_ref_name text && not b then Some text else None) is ∙ no_and (is_ref_name text))
  where
    no_and : (b : Bool) → (if b && false then Some text else None) ≡ None
    no_and true = refl
    no_and false = refl

no_name_by : (text : List ℕ) (b : Bool) → is_ref_name text ≡ b → (IsRefName text → ⊥) → None ≡ (if b && not (bytes_eq text log_name) then Some text else None)
no_name_by text true is never = absurd (never (name_from_test text is))
no_name_by text false is never = refl

pub no_name : (text : List ℕ) → (IsRefName text → ⊥) → None ≡ name_text text
no_name text never = no_name_by text (is_ref_name text) refl never

pub decoded_some : (text bytes : List ℕ) → decode_of standard text ≡ Ok bytes → Some bytes ≡ decoded text
decoded_some text bytes is = sym (decoded_of-ok standard text bytes is)

pub decoded_none : (text : List ℕ) (e : DecodeError) → decode_of standard text ≡ Err e → None ≡ decoded text
unfolding decoded_of
decoded_none text e is = sym (ap result_ok is)

pub take_within : (n : ℕ) (text : List ℕ) → take (min (length text) n) text ≡ take n text
take_within n text = elim (cases_lt (length text) n) [
  | inl short ↦
      let all : take (min (length text) n) text ≡ text = take_all (min (length text) n) text (omega arith) in
      all ∙ sym (take_all n text (omega arith))
  | inr long ↦ let same : min (length text) n ≡ n = omega arith in ap (λ (k : ℕ). take k text) same
]

pub drop_within : (n : ℕ) (text : List ℕ) → drop (min (length text) n) text ≡ drop n text
drop_within n text = elim (cases_lt (length text) n) [
  | inl short ↦
      let all : drop (min (length text) n) text ≡ [] = drop_of_length-le text {i = min (length text) n} (omega arith) in
      all ∙ sym (drop_of_length-le text {i = n} (omega arith))
  | inr long ↦ let same : min (length text) n ≡ n = omega arith in ap (λ (k : ℕ). drop k text) same
]
