-- The lines of objects and references, piece by piece, and that what stands in front is the only record that could.
use Rattle.std.proofs.Common.{◌≡◌, ℕ, false, List, [], ◌∷◌, ◌++◌, length, refl, sym, ap, ◌∙◌, append_assoc}
use Rattle.std.specs.Prelude.{codes, decimal}
use Rattle.hex.specs.Hex.{encode_lower}
use Rattle.text_reader.specs.Line.{has_byte}
use Rattle.text_reader.proofs.Unique.{same_front, same_until}
use Rattle.git_object.specs.Ids.{IsId}
use Rattle.git_object.specs.Objects.{Pair, kind_name}
use Rattle.git_object.specs.declared.kinds.Kind.{Kind}
use Rattle.git_object.specs.declared.kinds.Kind.TheVariants.{Blob, Tree, Commit, Tag}
use Rattle.git_object.proofs.LineLemmas.{same_id, same_name}
use Rattle.clone_stream.specs.Streams.{object_line, object_record, ref_line, ref_record}

-- ---- pieces

pub object_parts : (id : List ℕ) (kind : Kind) (digits : List ℕ) → object_line id kind digits ≡ codes "object " ++ (encode_lower id ++ 32 ∷ (kind_name kind ++ 32 ∷ digits))
unfolding object_line
object_parts id kind digits = refl

pub ref_parts : (name id : List ℕ) → ref_line name id ≡ codes "ref " ++ (name ++ 32 ∷ encode_lower id)
unfolding ref_line
ref_parts name id = refl

-- a record and what follows it
pub object_then : (e : List ℕ × Pair) (more : List ℕ)
    → object_record e ++ more ≡ object_line e.0 e.1.kind (decimal (length e.1.body)) ++ 10 ∷ (e.1.body ++ 10 ∷ more)
object_then e more =
    append_assoc (object_line e.0 e.1.kind (decimal (length e.1.body))) (10 ∷ (e.1.body ++ 10 ∷ [])) more
    ∙ ap (λ (r : List ℕ). object_line e.0 e.1.kind (decimal (length e.1.body)) ++ 10 ∷ r) (append_assoc e.1.body (10 ∷ []) more)

pub ref_then : (e : List ℕ × List ℕ) (more : List ℕ) → ref_record e ++ more ≡ ref_line e.0 e.1 ++ 10 ∷ more
ref_then e more = append_assoc (ref_line e.0 e.1) (10 ∷ []) more

-- ---- uniqueness

pub kind_has_no_space : (kind : Kind) → has_byte 32 (kind_name kind) ≡ false
kind_has_no_space Blob = refl
kind_has_no_space Tree = refl
kind_has_no_space Commit = refl
kind_has_no_space Tag = refl

pub same_after_space : (x y : List ℕ) → 32 ∷ x ≡ 32 ∷ y → x ≡ y
same_after_space x y e = cc

-- kinds and what follows, of one text
pub same_kind : (k l : Kind) (x y : List ℕ) → kind_name k ++ 32 ∷ x ≡ kind_name l ++ 32 ∷ y → (k ≡ l) × (x ≡ y)
same_kind k l x y e =
    let words = same_until 32 (kind_name k) (kind_name l) x y (kind_has_no_space k) (kind_has_no_space l) e in
    (same_name k l words.0, words.1)

-- id, kind and digits of one line
pub record SameLine (a b : List ℕ) (k l : Kind) (x y : List ℕ) : Type 0 where
  pub id : a ≡ b
  pub kind : k ≡ l
  pub digits : x ≡ y

pub same_object_line : (a b : List ℕ) (k l : Kind) (x y : List ℕ) → IsId a → IsId b → object_line a k x ≡ object_line b l y → SameLine a b k l x y
same_object_line a b k l x y ia ib e =
    let after = same_front (codes "object ") (encode_lower a ++ 32 ∷ (kind_name k ++ 32 ∷ x)) (encode_lower b ++ 32 ∷ (kind_name l ++ 32 ∷ y)) (sym (object_parts a k x) ∙ e ∙ object_parts b l y) in
    let ids = same_id a b (32 ∷ (kind_name k ++ 32 ∷ x)) (32 ∷ (kind_name l ++ 32 ∷ y)) ia ib after in
    let words = same_kind k l x y (same_after_space (kind_name k ++ 32 ∷ x) (kind_name l ++ 32 ∷ y) ids.1) in
    record { id = ids.0; kind = words.0; digits = words.1 }

pub same_ref_line : (a b i j : List ℕ) → has_byte 32 a ≡ false → has_byte 32 b ≡ false → IsId i → IsId j → ref_line a i ≡ ref_line b j → (a ≡ b) × (i ≡ j)
same_ref_line a b i j pa pb ii ij e =
    let after = same_front (codes "ref ") (a ++ 32 ∷ encode_lower i) (b ++ 32 ∷ encode_lower j) (sym (ref_parts a i) ∙ e ∙ ref_parts b j) in
    let names = same_until 32 a b (encode_lower i) (encode_lower j) pa pb after in
    let more : encode_lower i ++ [] ≡ encode_lower j ++ [] = ap (λ (t : List ℕ). t ++ []) names.1 in
    (names.0, (same_id i j [] [] ii ij more).0)
