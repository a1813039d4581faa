-- The lines of a message that is read are those of its bytes.
use Rattle.std.proofs.Common.{◌≡◌, ℕ, ◌-◌, ◌<◌, ◌≤◌, ◌==◌, Bool, true, false, not, List, []}
use Rattle.std.proofs.Common.{◌∷◌, ◌++◌, length, slice_index, Option, Some, None, inl, inr, refl, sym, ap, ◌∙◌}
use Rattle.std.proofs.Common.{arith, length-append}
use Rattle.std.specs.Prelude.{if◌then◌else◌, nat_le, replicate}
use Rattle.std.specs.Str.{bytes_eq}
use Rattle.std.proofs.lemmas.Bool.{and_parts, cases_eq, eq-eqb, eqb-true, false≢true, leb-true}
use Rattle.std.proofs.lemmas.List.{get_or-append_right, get_or-replicate}
use Rattle.base64.specs.Engines.{standard}
use Rattle.base64.specs.GeneralPurpose.{IsBytes}
use Rattle.base64.specs.Rfc4648.{encode_symbols, padding_len, unpadded_len}
use Rattle.base64.proofs.EngineFacts.{encode_of-append, encode_of-nil}
use Rattle.base64.proofs.RoundTrip.{length-encode_symbols}
use Rattle.rsl_chain.specs.Drafts.{cut, message_lines}
use Rattle.rsl_chain.specs.Grammar.{message_begin, message_end, piece_or_end_step, piece_step, piece_want, step}
use Rattle.rsl_chain.specs.Lines.{decoded, is_full, piece_text}
use Rattle.rsl_chain.specs.declared.places.Place.{Place}
use Rattle.rsl_chain.specs.declared.places.Want.TheVariants.{End, FirstPiece, MessageEnd, MessageOrEnd, PieceOrMessageEnd}
use Rattle.rsl_chain.proofs.DraftLemmas.{cut_more, cut_one}
use Rattle.rsl_chain.proofs.Pieces.{base64, base64_length}
use Rattle.rsl_chain.proofs.Runs.{at}
use Rattle.reading_laws.proofs.DecodedBytes.{both_bytes, decoded_is}
use Rattle.reading_laws.proofs.LineTexts.{filled, same_text}
use Rattle.reading_laws.proofs.LineWalks.{AreLines, OnStep, Walks, piece_on, plain_on}

abbrev Text : Type 0
Text = List ℕ

abbrev Parent : Type 0
Parent = Option Text

pub both_lines : (l a : Text) (ls b : List Text) → l ≡ a → ls ≡ b → l ∷ ls ≡ a ∷ b
both_lines l a ls b first rest = λ i. first i ∷ rest i

pub at_end_lines : (ls : List Text) (parent : Parent) (n k : ℕ) → Walks ls (at End parent n k) → ls ≡ []
unfolding step
at_end_lines [] parent n k walk = refl
at_end_lines (line ∷ more) parent n k walk = absurd walk

message_over : (ls : List Text) (parent : Parent) (n k : ℕ) → Walks ls (at MessageEnd parent n k) → ls ≡ message_end ∷ []
unfolding step
message_over [] parent n k walk = absurd (false≢true walk)
message_over (line ∷ more) parent n k walk =
    let on = plain_on (bytes_eq line message_end) End (at MessageEnd parent n k) (λ q. Walks more q) walk in
    both_lines line message_end more [] (same_text line message_end on.0) (at_end_lines more parent n k on.1)

-- ---- a piece

pub record IsPiece (line bytes : Text) : Type 0 where
  pub line_is : line ≡ base64 bytes
  pub bytes_are : IsBytes bytes
  pub some : 0 < length line
  pub most : length line ≤ 64
  pub any : 0 < length bytes

piece_within : (line bytes : Text) (b : Bool) → (nat_le (length line) 64) ≡ b → (length line == 0) ≡ false → IsBytes line
    → (if b then decoded line else None) ≡ Some bytes → IsPiece line bytes
piece_within line bytes true within other all is =
    let read = decoded_is line bytes all is in
    let any = filled line bytes read.0 other in
    record { line_is = read.0; bytes_are = read.1; some = long line other; most = leb-true (length line) 64 within; any = any }
  where
    long : (line : Text) → (length line == 0) ≡ false → 0 < length line
    long [] same = cc same
    long (c ∷ line) same = omega arith
piece_within line bytes false within other all is = cc is

piece_some : (line bytes : Text) (b : Bool) → (length line == 0) ≡ b → IsBytes line
    → (if b then None else if nat_le (length line) 64 then decoded line else None) ≡ Some bytes → IsPiece line bytes
piece_some line bytes true empty all is = cc is
piece_some line bytes false other all is = piece_within line bytes (nat_le (length line) 64) refl other all is

pub piece_is : (line bytes : Text) → IsBytes line → piece_text line ≡ Some bytes → IsPiece line bytes
piece_is line bytes all is = piece_some line bytes (length line == 0) refl all is

-- where the last character of 64 fills up, it is `=`
padded : (m : Text) → length (base64 m) ≡ 64 → 0 < padding_len (length m) → slice_index (base64 m) 63 ≡ 61
padded m long some =
    let symbols : Text = encode_symbols standard.encode_table m in
    let count : length symbols ≡ unpadded_len (length m) = length-encode_symbols standard.encode_table m in
    let whole = base64_length m in
    let at : 63 - length symbols < padding_len (length m) = omega (arith, long, some, count, whole) in
    get_or-append_right symbols (replicate (padding_len (length m)) 61) (length symbols) 63 0 refl (omega (arith, long, some, count, whole))
    ∙ get_or-replicate (padding_len (length m)) (63 - length symbols) 61 0 at

-- a line of 64 characters that does not fill up is that of 48 bytes
full_is : (line bytes : Text) → IsPiece line bytes → is_full line ≡ true → length bytes ≡ 48
full_is line bytes is full =
    let parts = and_parts (length line == 64) (not (slice_index line 63 == 61)) full in
    let long : length (base64 bytes) ≡ 64 = ap length (sym is.line_is) ∙ eqb-true (length line) 64 parts.0 in
    let whole = base64_length bytes in
    elim (cases_eq (padding_len (length bytes)) 0) [
      | inl none ↦ omega (arith, long, whole, none)
      | inr some ↦
          let last : slice_index line 63 ≡ 61 = ap (λ (t : Text). slice_index t 63) is.line_is ∙ padded bytes long (omega (arith, some)) in
          absurd (false≢true (sym (ap not (eq-eqb (slice_index line 63) 61 last)) ∙ parts.1))
    ]

-- ---- the lines of a message

abbrev pub piece_lines : Text → List Text
piece_lines m = cut 64 (base64 m) ++ message_end ∷ []

-- from a piece on
pub record IsMessage (ls : List Text) : Type 0 where
  pub bytes : Text
  pub are : IsBytes bytes
  pub lines_are : ls ≡ piece_lines bytes

none_more : (ls : List Text) → ls ≡ message_end ∷ [] → IsMessage ls
none_more ls is = record {
  bytes = [];
  are = λ i. omega arith;
  lines_are = is ∙ ap (λ (t : Text). cut 64 t ++ message_end ∷ []) (sym (encode_of-nil standard));
}

last_piece : (line bytes : Text) (more : List Text) → IsPiece line bytes → more ≡ message_end ∷ [] → line ∷ more ≡ piece_lines bytes
last_piece line bytes more is over =
    ap (λ (ls : List Text). line ∷ ls) over
    ∙ ap (λ (ls : List Text). ls ++ message_end ∷ []) (sym (cut_one line is.some is.most))
    ∙ ap (λ (t : Text). cut 64 t ++ message_end ∷ []) is.line_is

one_more : (line bytes rest : Text) (more : List Text) → IsPiece line bytes → length bytes ≡ 48 → more ≡ piece_lines rest
    → line ∷ more ≡ piece_lines (bytes ++ rest)
one_more line bytes rest more is long later =
    let whole = base64_length bytes in
    let long_line : length (base64 bytes) ≡ 64 = omega (arith, whole, long) in
    both_lines line (base64 bytes) more (piece_lines rest) is.line_is later
    ∙ ap (λ (ls : List Text). ls ++ message_end ∷ [])
    (sym (cut_more (base64 bytes) (base64 rest) long_line) ∙ ap (cut 64) (sym (encode_of-append standard bytes rest (omega (arith, long)))))

-- a message that is not empty
pub record IsFilled (ls : List Text) : Type 0 where
  pub first : ℕ
  pub rest : Text
  pub are : IsBytes (first ∷ rest)
  pub lines_are : ls ≡ piece_lines (first ∷ rest)

fill : (ls : List Text) (bytes : Text) → 0 < length bytes → IsBytes bytes → ls ≡ piece_lines bytes → IsFilled ls
fill ls [] some all is = absurd (omega (arith, some))
fill ls (b ∷ bytes) some all is = record { first = b; rest = bytes; are = all; lines_are = is }

after_piece : (line bytes : Text) (more : List Text) (parent : Parent) (n k : ℕ) (full : Bool) → is_full line ≡ full → IsPiece line bytes
    → (Walks more (at PieceOrMessageEnd parent n k) → IsMessage more)
    → Walks more (at (piece_want full) parent n k) → IsFilled (line ∷ more)
after_piece line bytes more parent n k true full is others walk =
    let later = others walk in
    let long = length-append bytes later.bytes in
    let any = is.any in
    fill (line ∷ more) (bytes ++ later.bytes) (omega (arith, long, any)) (both_bytes bytes later.bytes is.bytes_are later.are)
    (one_more line bytes later.bytes more is (full_is line bytes is full) later.lines_are)
after_piece line bytes more parent n k false full is others walk =
    fill (line ∷ more) bytes is.any is.bytes_are (last_piece line bytes more is (message_over more parent n k walk))

on_piece : (line : Text) (more : List Text) (p : Place) → IsBytes line → (Walks more (at PieceOrMessageEnd p.parent p.number p.ids) → IsMessage more)
    → OnStep (piece_step (piece_text line) (is_full line) p) (λ q. Walks more q) → IsFilled (line ∷ more)
on_piece line more p all others walk =
    let on = piece_on (piece_text line) (is_full line) p (λ q. Walks more q) walk in
    after_piece line on.bytes more p.parent p.number p.ids (is_full line) refl (piece_is line on.bytes all on.reads) others on.on

unfilled : (ls : List Text) → IsFilled ls → IsMessage ls
unfilled ls is = record { bytes = is.first ∷ is.rest; are = is.are; lines_are = is.lines_are }

piece_or_end : (line : Text) (more : List Text) (p : Place) (b : Bool) → bytes_eq line message_end ≡ b → IsBytes line
    → (Walks more (at PieceOrMessageEnd p.parent p.number p.ids) → IsMessage more)
    → OnStep (piece_or_end_step b line p) (λ q. Walks more q) → IsMessage (line ∷ more)
piece_or_end line more p true ends all others walk =
    none_more (line ∷ more) (both_lines line message_end more [] (same_text line message_end ends) (at_end_lines more p.parent p.number p.ids walk))
piece_or_end line more p false ends all others walk = unfilled (line ∷ more) (on_piece line more p all others walk)

more_pieces : (ls : List Text) (parent : Parent) (n k : ℕ) → AreLines ls → Walks ls (at PieceOrMessageEnd parent n k) → IsMessage ls
unfolding step
more_pieces [] parent n k are walk = absurd (false≢true walk)
more_pieces (line ∷ more) parent n k are walk =
    piece_or_end line more (at PieceOrMessageEnd parent n k) (bytes_eq line message_end) refl are.0.1
    (λ on. more_pieces more parent n k are.1 on) walk

first_piece : (ls : List Text) (parent : Parent) (n k : ℕ) → AreLines ls → Walks ls (at FirstPiece parent n k) → IsFilled ls
unfolding step
first_piece [] parent n k are walk = absurd (false≢true walk)
first_piece (line ∷ more) parent n k are walk =
    on_piece line more (at FirstPiece parent n k) are.0.1 (λ on. more_pieces more parent n k are.1 on) walk

-- the lines behind an annotation's number
pub record IsTold (ls : List Text) : Type 0 where
  pub message : Text
  pub are : IsBytes message
  pub lines_are : ls ≡ message_lines message

pub message_is : (ls : List Text) (parent : Parent) (n k : ℕ) → AreLines ls → Walks ls (at MessageOrEnd parent n k) → IsTold ls
unfolding step
message_is [] parent n k are walk = record { message = []; are = λ i. omega arith; lines_are = refl }
message_is (line ∷ more) parent n k are walk =
    let on = plain_on (bytes_eq line message_begin) FirstPiece (at MessageOrEnd parent n k) (λ q. Walks more q) walk in
    let told = first_piece more parent n k are.1 on.1 in
    record {
      message = told.first ∷ told.rest;
      are = told.are;
      lines_are = both_lines line message_begin more (piece_lines (told.first ∷ told.rest)) (same_text line message_begin on.0) told.lines_are;
    }
