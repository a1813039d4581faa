-- The lines in front of a commit and a tag, piece by piece, and that a line is read in one way.
use Rattle.std.proofs.Common.{◌≡◌, ℕ, ◌<◌, false, List, [], ◌∷◌, ◌++◌, length, slice_index, refl, sym, ap, ◌∙◌, append_assoc, arith, length-append}
use Rattle.std.specs.Prelude.{codes, if◌then◌else◌, nat_eq}
use Rattle.hex.specs.Hex.{encode_lower}
use Rattle.text_reader.specs.Line.{has_byte}
use Rattle.text_reader.proofs.Unique.{same_front, same_fronts, same_hexadecimal, same_until}
use Rattle.git_object.specs.Ids.{IsId}
use Rattle.git_object.specs.HeaderLines.{id_line, type_line}
use Rattle.git_object.specs.Objects.{kind_name}
use Rattle.git_object.specs.declared.kinds.Kind.{Kind}
use Rattle.git_object.specs.declared.kinds.Kind.TheVariants.{Blob, Tree, Commit, Tag}
use Rattle.git_object.proofs.IdLemmas.{length-hexadecimal}

-- a line of an id and what follows it
pub id_line_then : (word id more : List ℕ) → id_line word id ++ more ≡ word ++ (encode_lower id ++ 10 ∷ more)
unfolding id_line
id_line_then word id more =
    append_assoc word (encode_lower id ++ 10 ∷ []) more ∙ ap (λ (rest : List ℕ). word ++ rest) (append_assoc (encode_lower id) (10 ∷ []) more)

-- a line of an id that was added in three pieces
pub id_line_added : (text word id a b c : List ℕ) → a ≡ text ++ word → b ≡ a ++ encode_lower id → c ≡ b ++ 10 ∷ [] → c ≡ text ++ id_line word id
unfolding id_line
id_line_added text word id a b c first second third =
    third ∙ ap (λ (front : List ℕ). front ++ 10 ∷ []) (second ∙ ap (λ (front : List ℕ). front ++ encode_lower id) first ∙ append_assoc text word (encode_lower id))
    ∙ append_assoc text (word ++ encode_lower id) (10 ∷ []) ∙ ap (λ (rest : List ℕ). text ++ rest) (append_assoc word (encode_lower id) (10 ∷ []))

-- ids of one text are equal, and so is what follows
pub same_id : (a b x y : List ℕ) → IsId a → IsId b → encode_lower a ++ x ≡ encode_lower b ++ y → (a ≡ b) × (x ≡ y)
same_id a b x y ia ib e =
    let parts = same_fronts (encode_lower a) (encode_lower b) x y (length-hexadecimal a ia ∙ sym (length-hexadecimal b ib)) e in
    (same_hexadecimal a b ia.bytes ib.bytes parts.0, parts.1)

after_line_feed : (x y : List ℕ) → 10 ∷ x ≡ 10 ∷ y → x ≡ y
after_line_feed x y e = cc

pub same_id_line : (word a b x y : List ℕ) → IsId a → IsId b → id_line word a ++ x ≡ id_line word b ++ y → (a ≡ b) × (x ≡ y)
same_id_line word a b x y ia ib e =
    let after : encode_lower a ++ 10 ∷ x ≡ encode_lower b ++ 10 ∷ y =
    same_front word (encode_lower a ++ 10 ∷ x) (encode_lower b ++ 10 ∷ y) (sym (id_line_then word a x) ∙ e ∙ id_line_then word b y) in
    let ids = same_id a b (10 ∷ x) (10 ∷ y) ia ib after in
    (ids.0, after_line_feed x y ids.1)

-- the kind of a word's second letter
kind_of : ℕ → Kind
kind_of c = if nat_eq c 108 then Blob else if nat_eq c 114 then Tree else if nat_eq c 111 then Commit else Tag

named : (kind : Kind) → kind_of (slice_index (kind_name kind) 1) ≡ kind
unfolding kind_of
named Blob = refl
named Tree = refl
named Commit = refl
named Tag = refl

pub same_name : (k l : Kind) → kind_name k ≡ kind_name l → k ≡ l
same_name k l e = sym (named k) ∙ ap (λ (word : List ℕ). kind_of (slice_index word 1)) e ∙ named l

kind_has_no_line_feed : (kind : Kind) → has_byte 10 (kind_name kind) ≡ false
kind_has_no_line_feed Blob = refl
kind_has_no_line_feed Tree = refl
kind_has_no_line_feed Commit = refl
kind_has_no_line_feed Tag = refl

-- a line of a kind and what follows it
type_line_then : (kind : Kind) (more : List ℕ) → type_line kind ++ more ≡ codes "type " ++ (kind_name kind ++ 10 ∷ more)
type_line_then kind more = ap (λ (rest : List ℕ). codes "type " ++ rest) (append_assoc (kind_name kind) (10 ∷ []) more)

pub same_type_line : (k l : Kind) (x y : List ℕ) → type_line k ++ x ≡ type_line l ++ y → (k ≡ l) × (x ≡ y)
same_type_line k l x y e =
    let after : kind_name k ++ 10 ∷ x ≡ kind_name l ++ 10 ∷ y =
    same_front (codes "type ") (kind_name k ++ 10 ∷ x) (kind_name l ++ 10 ∷ y) (sym (type_line_then k x) ∙ e ∙ type_line_then l y) in
    let words = same_until 10 (kind_name k) (kind_name l) x y (kind_has_no_line_feed k) (kind_has_no_line_feed l) after in
    (same_name k l words.0, words.1)

-- a text that begins with a line is longer than what follows it
pub line_shorter : (word id more text : List ℕ) → text ≡ id_line word id ++ more → length more < length text
unfolding id_line
line_shorter word id more text e =
    omega (arith, ap length e, length-append (word ++ (encode_lower id ++ 10 ∷ [])) more, length-append word (encode_lower id ++ 10 ∷ []), length-append (encode_lower id) (10 ∷ []))
