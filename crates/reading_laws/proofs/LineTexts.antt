-- A line from which something is read is the text of what is read.
use Rattle.std.proofs.Common.{◌≡◌, ℕ, ◌<◌, ◌≤◌, ◌==◌, Bool, true, false, not, ◌&&◌, List, [], ◌∷◌}
use Rattle.std.proofs.Common.{◌++◌, length, take, drop, Option, Some, None, Result, Ok, Err, refl, sym, ap, subst}
use Rattle.std.proofs.Common.{◌∙◌, arith, take-append-drop}
use Rattle.std.specs.Prelude.{codes, cond, decimal, if◌then◌else◌, is_some, nat_le}
use Rattle.std.specs.List.{list_all}
use Rattle.std.specs.Option.{option_and_then}
use Rattle.std.specs.Result.{result_ok}
use Rattle.std.specs.Str.{bytes_eq}
use Rattle.std.proofs.lemmas.Bool.{and_parts, eqb-true, false≢true, leb-true}
use Rattle.std.proofs.lemmas.List.Sums.{AllPass-from_list_all}
use Rattle.std.proofs.lemmas.Slice.Eq.{bytes_eq-Decides}
use Rattle.base64.specs.Engines.{standard}
use Rattle.base64.specs.GeneralPurpose.{IsBytes, encode_of}
use Rattle.base64.proofs.EngineFacts.{encode_of-nil}
use Rattle.hex.specs.Hex.{decode_of, encode_lower}
use Rattle.hex.proofs.HexLemmas.{decode_of-ok, decode_sized-twice}
use Rattle.text_reader.specs.Hexadecimal.{is_lower_digit}
use Rattle.text_reader.specs.Number.{number_of}
use Rattle.text_reader.proofs.LowerHexadecimal.{written}
use Rattle.text_reader.proofs.Numbers.{written_number}
use Rattle.git_object.specs.Ids.{IsId}
use Rattle.git_object.specs.Names.{IsRefName, is_ref_name, log_name}
use Rattle.git_object.proofs.NameTests.{name_from_test}
use Rattle.rsl_chain.specs.Drafts.{number_line, signature_line}
use Rattle.rsl_chain.specs.Lines.{begins, both_parts, decoded, id_after, id_text, is_number, name_after, name_text}
use Rattle.rsl_chain.specs.Lines.{number_after, number_text, signature_after, signature_text, signed_text, strip}
use Rattle.rsl_chain.specs.declared.words.SignatureLine.{SignatureLine}
use Rattle.rsl_chain.proofs.Pieces.{rest_bytes}
use Rattle.rsl_chain.proofs.WordLemmas.{number_from_test}
use Rattle.reading_laws.proofs.DecodedBytes.{decoded_is}

abbrev Text : Type 0
Text = List ℕ

pub same_text : (a b : Text) → bytes_eq a b ≡ true → a ≡ b
same_text a b is = (bytes_eq-Decides a b).0 is

-- ---- after a word

strip_on : (c d : ℕ) (word line rest : Text) (b : Bool) → (c == d) ≡ b → (strip word line ≡ Some rest → line ≡ word ++ rest)
    → cond b (strip word line) None ≡ Some rest → d ∷ line ≡ c ∷ (word ++ rest)
strip_on c d word line rest true head others more =
    let first : c ≡ d = eqb-true c d head in
    let behind : line ≡ word ++ rest = others more in
    λ i. sym first i ∷ behind i
strip_on c d word line rest false head others none = cc none

pub strip_is : (word line rest : Text) → strip word line ≡ Some rest → line ≡ word ++ rest
strip_is [] line rest is = cc is
strip_is (c ∷ word) [] rest is = cc is
strip_is (c ∷ word) (d ∷ line) rest is = strip_on c d word line rest (c == d) refl (λ more. strip_is word line rest more) is

-- what is read after a word
pub record After {A : Type 0} (word line : Text) (read : Text → Option A) (x : A) : Type 0 where
  pub rest : Text
  pub line_is : line ≡ word ++ rest
  pub reads : read rest ≡ Some x

pub after_word : {A : Type 0} (word line : Text) (read : Text → Option A) (x : A) → option_and_then read (strip word line) ≡ Some x
    → After word line read x
after_word word line read x is = from (strip word line) refl is
  where
    from : (o : Option Text) → strip word line ≡ o → option_and_then read o ≡ Some x → After word line read x
    from None stripped none = cc none
    from (Some rest) stripped reads = record { rest = rest; line_is = strip_is word line rest stripped; reads = reads }

pub begins_is : (word line : Text) → begins word line ≡ true → (rest : Text) × (line ≡ word ++ rest)
begins_is word line is = from (strip word line) refl is
  where
    from : (o : Option Text) → strip word line ≡ o → is_some o ≡ true → (rest : Text) × (line ≡ word ++ rest)
    from None stripped none = absurd (false≢true none)
    from (Some rest) stripped some = (rest, strip_is word line rest stripped)

-- ---- ids

ok_of : {E : Type 0} (r : Result Text E) (x : Text) → result_ok r ≡ Some x → r ≡ Ok x
ok_of (Ok y) x is = let same : y ≡ x = cc is in ap (λ (t : Text). Ok t) same
ok_of (Err e) x is = cc is

id_if : (text id : Text) (b : Bool) → (length text == 64 && list_all is_lower_digit text) ≡ b
    → (if b then result_ok (decode_of text) else None) ≡ Some id → (text ≡ encode_lower id) × IsId id
id_if text id true tests is =
    let parts = and_parts (length text == 64) (list_all is_lower_digit text) tests in
    let long : length text ≡ 64 = eqb-true (length text) 64 parts.0 in
    let reads = ok_of (decode_of text) id is in
    let facts = decode_of-ok text id reads in
    let half : length id ≡ 32 = let twice = facts.2 in omega (arith, long, twice) in (
      sym (written 32 text id (AllPass-from_list_all is_lower_digit text parts.1) (decode_sized-twice text 32 long ∙ reads)),
      record { length = half; bytes = facts.3 },
    )
id_if text id false tests is = cc is

pub id_is : (text id : Text) → id_text text ≡ Some id → (text ≡ encode_lower id) × IsId id
unfolding id_text
id_is text id is = id_if text id (length text == 64 && list_all is_lower_digit text) refl is

pub id_line_is : (word line id : Text) → id_after word line ≡ Some id → (line ≡ word ++ encode_lower id) × IsId id
id_line_is word line id is =
    let after = after_word word line id_text id is in
    let read = id_is after.rest id after.reads in
    (after.line_is ∙ ap (λ (t : Text). word ++ t) read.0, read.1)

-- ---- numbers

number_if : (text : Text) (n : ℕ) (b : Bool) → (is_number text && nat_le (number_of text) 1000000) ≡ b
    → (if b then Some (number_of text) else None) ≡ Some n → (text ≡ decimal n) × (n ≤ 1000000)
number_if text n true tests is =
    let parts = and_parts (is_number text) (nat_le (number_of text) 1000000) tests in
    let most : number_of text ≤ 1000000 = leb-true (number_of text) 1000000 parts.1 in
    let same : number_of text ≡ n = cc is in
    (written_number text (number_from_test text parts.0) (omega (arith, most)) ∙ ap decimal same, omega (arith, most, same))
number_if text n false tests is = cc is

number_is : (text : Text) (n : ℕ) → number_text text ≡ Some n → (text ≡ decimal n) × (n ≤ 1000000)
unfolding number_text
number_is text n is = number_if text n (is_number text && nat_le (number_of text) 1000000) refl is

pub number_line_is : (line : Text) (n : ℕ) → number_after line ≡ Some n → (line ≡ number_line n) × (n ≤ 1000000)
number_line_is line n is =
    let after = after_word (codes "number: ") line number_text n is in
    let read = number_is after.rest n after.reads in
    (after.line_is ∙ ap (λ (t : Text). codes "number: " ++ t) read.0, read.1)

-- ---- names

name_if : (text name : Text) (named same : Bool) → is_ref_name text ≡ named → bytes_eq text log_name ≡ same
    → (if named && not same then Some text else None) ≡ Some name
    → (text ≡ name) × IsRefName name × (name ≡ log_name → ⊥)
name_if text name true true tests log is = cc is
name_if text name true false tests log is =
    let same : text ≡ name = cc is in (
      same,
      subst IsRefName same (name_from_test text tests),
      λ own. false≢true (sym log ∙ (bytes_eq-Decides text log_name).1 (same ∙ own)),
    )
name_if text name false same tests log is = cc is

pub name_line_is : (line name : Text) → name_after line ≡ Some name → (line ≡ codes "ref: " ++ name) × IsRefName name × (name ≡ log_name → ⊥)
name_line_is line name is =
    let after = after_word (codes "ref: ") line name_text name is in
    let read = name_if after.rest name (is_ref_name after.rest) (bytes_eq after.rest log_name) refl refl after.reads in
    (after.line_is ∙ ap (λ (t : Text). codes "ref: " ++ t) read.0, read.1, read.2)

-- ---- signatures

pub rest_of_bytes : (front rest line : Text) → line ≡ front ++ rest → IsBytes line → IsBytes rest
rest_of_bytes front rest line is bytes = rest_bytes front rest (subst IsBytes is bytes)

-- the encoding of no bytes is empty
pub filled : (text bytes : Text) → text ≡ encode_of standard bytes → (length text == 0) ≡ false → 0 < length bytes
filled text [] is other = absurd (false≢true (sym other ∙ ap (λ (t : Text). length t == 0) (is ∙ encode_of-nil standard)))
filled text (b ∷ bytes) is other = omega arith

signature_if : (text signature : Text) (b : Bool) → (length text == 0) ≡ b → IsBytes text → (if b then None else decoded text) ≡ Some signature
    → (text ≡ encode_of standard signature) × IsBytes signature × (0 < length signature)
signature_if text signature true empty bytes is = cc is
signature_if text signature false empty bytes is =
    let read = decoded_is text signature bytes is in
    (read.0, read.1, filled text signature read.0 empty)

-- both texts of a signature
pub record Signed (line : Text) (s : SignatureLine) : Type 0 where
  pub line_is : line ≡ signature_line s
  pub signer : IsId s.signer
  pub some : 0 < length s.signature
  pub bytes : IsBytes s.signature

both_are : (key signature : Option Text) (s : SignatureLine) → both_parts key signature ≡ Some s
    → (key ≡ Some s.signer) × (signature ≡ Some s.signature)
both_are None signature s is = cc is
both_are (Some key) None s is = cc is
both_are (Some key) (Some signature) s is =
    let same : ◌≡◌ {A = SignatureLine} (record { signer = key; signature = signature }) s = cc is in
    (ap (λ (s : SignatureLine). Some s.signer) same, ap (λ (s : SignatureLine). Some s.signature) same)

pub signature_line_is : (line : Text) (s : SignatureLine) → IsBytes line → signature_after line ≡ Some s → Signed line s
signature_line_is line s bytes is =
    let after = after_word (codes "lmssig ") line signed_text s is in
    let text = after.rest in
    let parts = both_are (id_text (take 64 text)) (option_and_then signature_text (strip (codes " ") (drop 64 text))) s after.reads in
    let key = id_is (take 64 text) s.signer parts.0 in
    let gap = after_word (codes " ") (drop 64 text) signature_text s.signature parts.1 in
    let all : IsBytes text = rest_of_bytes (codes "lmssig ") text line after.line_is bytes in
    let behind : IsBytes (drop 64 text) = rest_of_bytes (take 64 text) (drop 64 text) text (sym (take-append-drop 64 text)) all in
    let signature = signature_if gap.rest s.signature (length gap.rest == 0) refl
    (rest_of_bytes (codes " ") gap.rest (drop 64 text) gap.line_is behind) gap.reads in
    record {
      line_is = after.line_is ∙ ap (λ (t : Text). codes "lmssig " ++ t)
          (sym (take-append-drop 64 text) ∙ ap (λ (t : Text). t ++ drop 64 text) key.0
          ∙ ap (λ (t : Text). encode_lower s.signer ++ t) (gap.line_is ∙ ap (λ (t : Text). codes " " ++ t) signature.0));
      signer = key.1;
      some = signature.2;
      bytes = signature.1;
    }
