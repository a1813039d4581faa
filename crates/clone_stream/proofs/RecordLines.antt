-- The lines of records are lines: they hold no line feed, and they are short.
use Rattle.std.proofs.Common.{◌≡◌, ℕ, ◌<◌, ◌≤◌, ◌^◌, ◌==◌, Bool, true, false, ◌||◌, List, [], ◌∷◌, ◌++◌, length, refl, sym, ap, ◌∙◌, arith, length-append}
use Rattle.std.specs.Prelude.{codes, decimal, slice_index}
use Rattle.std.specs.List.{AllPass, list_all}
use Rattle.std.proofs.lemmas.Bool.{and_parts, ne_eqb, true≢false}
use Rattle.std.proofs.lemmas.Fmt.{length-decimal-le}
use Rattle.std.proofs.lemmas.List.Elements.{All-head, All-tail}
use Rattle.hex.specs.Hex.{encode_lower}
use Rattle.text_reader.specs.Hexadecimal.{is_lower_digit}
use Rattle.text_reader.specs.Line.{has_byte}
use Rattle.text_reader.proofs.Unique.{decimal_line, no_byte}
use Rattle.buffered_reader.specs.Lines.{IsLine}
use Rattle.git_object.specs.Ids.{IsId}
use Rattle.git_object.specs.Names.{is_plain}
use Rattle.git_object.specs.Objects.{kind_name}
use Rattle.git_object.specs.Repository.{largest_body}
use Rattle.git_object.specs.declared.kinds.Kind.{Kind}
use Rattle.git_object.specs.declared.kinds.Kind.TheVariants.{Blob, Tree, Commit, Tag}
use Rattle.git_object.proofs.IdLemmas.{id_is_lower, length-hexadecimal}
use Rattle.clone_stream.specs.Streams.{IsRef, object_line, ref_line}
use Rattle.clone_stream.proofs.Lines.{object_parts, ref_parts}

-- the size of a body within the limit fits
pub size_fits : (n : ℕ) → n ≤ largest_body → n < 2 ^ 64
size_fits n small = omega arith

lower_one_line : (text : List ℕ) → AllPass is_lower_digit text → has_byte 10 text ≡ false
lower_one_line [] all = refl
lower_one_line (c ∷ text) all =
    let P : ℕ → Type 0 = λ d. is_lower_digit d ≡ true in
    let other : (c == 10) ≡ false = ne_eqb c 10 (λ e. true≢false (sym (All-head P c text all) ∙ ap is_lower_digit e)) in
    ap (λ (t : Bool). t || has_byte 10 text) other ∙ lower_one_line text (All-tail P c text all)

plain_one_line : (text : List ℕ) → list_all is_plain text ≡ true → has_byte 10 text ≡ false
plain_one_line [] plain = refl
plain_one_line (b ∷ text) plain =
    let parts = and_parts (is_plain b) (list_all is_plain text) plain in
    let other : (b == 10) ≡ false = ne_eqb b 10 (λ e. true≢false (sym parts.0 ∙ ap is_plain e)) in
    ap (λ (t : Bool). t || has_byte 10 text) other ∙ plain_one_line text parts.1

kind_one_line : (kind : Kind) → has_byte 10 (kind_name kind) ≡ false
kind_one_line Blob = refl
kind_one_line Tree = refl
kind_one_line Commit = refl
kind_one_line Tag = refl

kind_short : (kind : Kind) → length (kind_name kind) ≤ 6
kind_short Blob = omega arith
kind_short Tree = omega arith
kind_short Commit = omega arith
kind_short Tag = omega arith

-- a word, a space and more
then_one_line : (a b : List ℕ) → has_byte 10 a ≡ false → has_byte 10 b ≡ false → has_byte 10 (a ++ 32 ∷ b) ≡ false
then_one_line a b p q = no_byte 10 a (32 ∷ b) p q

-- an object's line with a size within the limit
pub object_is_line : (id : List ℕ) (kind : Kind) (size : ℕ) → IsId id → size ≤ largest_body → IsLine (object_line id kind (decimal size))
object_is_line id kind size is small = record {
  one = ap (has_byte 10) (object_parts id kind (decimal size))
      ∙ no_byte 10 (codes "object ") (encode_lower id ++ 32 ∷ (kind_name kind ++ 32 ∷ decimal size)) refl
      (then_one_line (encode_lower id) (kind_name kind ++ 32 ∷ decimal size) (lower_one_line (encode_lower id) (id_is_lower id is).1)
      (then_one_line (kind_name kind) (decimal size) (kind_one_line kind) (decimal_line size (size_fits size small))));
  short =
      let whole = ap length (object_parts id kind (decimal size)) in
      let a = length-append (codes "object ") (encode_lower id ++ 32 ∷ (kind_name kind ++ 32 ∷ decimal size)) in
      let b = length-append (encode_lower id) (32 ∷ (kind_name kind ++ 32 ∷ decimal size)) in
      let c = length-append (kind_name kind) (32 ∷ decimal size) in
      let d = length-hexadecimal id is in
      let e = kind_short kind in
      let f : length (decimal size) ≤ 8 = length-decimal-le 8 size (omega arith) (omega arith) (size_fits size small) in
      let g : length (codes "object ") ≡ 7 = refl in
      omega arith;
}

-- a reference's line
pub ref_is_line : (name id : List ℕ) → IsRef (name, id) → IsLine (ref_line name id)
ref_is_line name id is = record {
  one = ap (has_byte 10) (ref_parts name id)
      ∙ no_byte 10 (codes "ref ") (name ++ 32 ∷ encode_lower id) refl (then_one_line name (encode_lower id) (plain_one_line name is.name.plain) (lower_one_line (encode_lower id) (id_is_lower id is.id).1));
  short =
      let whole = ap length (ref_parts name id) in
      let a = length-append (codes "ref ") (name ++ 32 ∷ encode_lower id) in
      let b = length-append name (32 ∷ encode_lower id) in
      let c = length-hexadecimal id is.id in
      let d = is.name.short in
      let e : length (codes "ref ") ≡ 4 = refl in
      omega arith;
}

-- ---- by their first letters

pub object_letter : (id : List ℕ) (kind : Kind) (digits more : List ℕ) → slice_index (object_line id kind digits ++ more) 0 ≡ 111
unfolding object_line
object_letter id kind digits more = refl

pub ref_letter : (name id more : List ℕ) → slice_index (ref_line name id ++ more) 0 ≡ 114
unfolding ref_line
ref_letter name id more = refl
