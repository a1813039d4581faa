-- What stands in front of the rest of a stream: of all that may stand there or break there, one.
use Rattle.std.proofs.Common.{◌≡◌, ℕ, ◌<◌, ◌≤◌, ◌==◌, true, List, [], ◌∷◌, ◌++◌, length, refl, sym, ap, subst, ◌∙◌, arith, length-append}
use Rattle.std.specs.Prelude.{codes, decimal, slice_index}
use Rattle.std.proofs.lemmas.Bool.{eq-eqb, or_left, or_right, true≢false}
use Rattle.std.proofs.lemmas.Fmt.{decimal_injective}
use Rattle.std.proofs.lemmas.List.{append-nil}
use Rattle.text_reader.specs.Line.{has_byte}
use Rattle.text_reader.specs.Number.{number_of}
use Rattle.text_reader.proofs.Numbers.{decimal_is_number, number_of-decimal}
use Rattle.text_reader.proofs.Unique.{has_byte_here, same_until}
use Rattle.buffered_reader.specs.Lines.{IsLine, IsLong}
use Rattle.git_object.specs.Ids.{IsId}
use Rattle.git_object.specs.Repository.{largest_body}
use Rattle.git_object.specs.declared.kinds.Kind.{Kind}
use Rattle.git_object.proofs.NameLemmas.{name_has_no_space}
use Rattle.clone_stream.specs.Streams.{IsRef, object_line, ref_line}
use Rattle.clone_stream.specs.Words.{IsHugeLine, IsObjectLine, IsOtherLine}
use Rattle.clone_stream.proofs.Lines.{same_object_line, same_ref_line}
use Rattle.clone_stream.proofs.RecordLines.{object_letter, ref_letter, size_fits}

-- ---- the first line

-- no line feed in 400 bytes, a line that is cut, or a line and what follows it
pub data Place : Type 0 where
  long : Place
  cut : Place
  line : List ℕ → List ℕ → Place

abbrev pub IsPlace : List ℕ → Place → Type 0
IsPlace text long = IsLong text
IsPlace text cut = IsLine text
IsPlace text (line l more) = (text ≡ l ++ 10 ∷ more) × IsLine l

feed_within : (front more l m : List ℕ) → front ++ more ≡ l ++ 10 ∷ m → length l < length front → has_byte 10 front ≡ true
feed_within [] more l m e short = absurd (omega arith)
feed_within (b ∷ front) more [] m e short = let here : b ≡ 10 = cc in or_left (b == 10) (has_byte 10 front) (eq-eqb b 10 here)
feed_within (b ∷ front) more (c ∷ l) m e short =
    let rest : front ++ more ≡ l ++ 10 ∷ m = cc in
    or_right (b == 10) (has_byte 10 front) (feed_within front more l m rest (omega arith))

long_no_cut : (text : List ℕ) → IsLong text → IsLine text → ⊥
long_no_cut text a b = let front = ap length a.whole ∙ length-append a.front a.more in let long = a.long in let short = b.short in absurd (omega arith)

long_no_line : (text l more : List ℕ) → IsLong text → text ≡ l ++ 10 ∷ more → IsLine l → ⊥
long_no_line text l more a e b =
    let long = a.long in
    let short = b.short in
    true≢false (sym (feed_within a.front a.more l more (sym a.whole ∙ e) (omega arith)) ∙ a.one)

cut_no_line : (text l more : List ℕ) → IsLine text → text ≡ l ++ 10 ∷ more → ⊥
cut_no_line text l more a e = true≢false (sym (has_byte_here 10 l more) ∙ ap (has_byte 10) (sym e) ∙ a.one)

pub one_place : (text : List ℕ) (p q : Place) → IsPlace text p → IsPlace text q → p ≡ q
one_place text long long a b = refl
one_place text long cut a b = absurd (long_no_cut text a b)
one_place text long (line l more) a b = absurd (long_no_line text l more a b.0 b.1)
one_place text cut long a b = absurd (long_no_cut text b a)
one_place text cut cut a b = refl
one_place text cut (line l more) a b = absurd (cut_no_line text l more a b.0)
one_place text (line l more) long a b = absurd (long_no_line text l more b a.0 a.1)
one_place text (line l more) cut a b = absurd (cut_no_line text l more b a.0)
one_place text (line l more) (line k rest) a b =
    let same = same_until 10 l k more rest a.1.one b.1.one (sym a.0 ∙ b.0) in
    λ i. line (same.0 i) (same.1 i)

-- ---- what a line says

pub data Saying : Type 0 where
  other : Saying
  huge : Saying
  head : List ℕ → Kind → ℕ → Saying
  ref : List ℕ → List ℕ → Saying
  end : Saying

-- an object's line with a size within the limit
pub record IsHeadLine (id : List ℕ) (kind : Kind) (size : ℕ) (l : List ℕ) : Type 0 where
  pub is : l ≡ object_line id kind (decimal size)
  pub is_id : IsId id
  pub small : size ≤ largest_body

abbrev pub IsSaying : List ℕ → Saying → Type 0
IsSaying l other = IsOtherLine l
IsSaying l huge = IsHugeLine l
IsSaying l (head id kind size) = IsHeadLine id kind size l
IsSaying l (ref name id) = (l ≡ ref_line name id) × IsRef (name, id)
IsSaying l end = l ≡ codes "end"

object_first : (l id : List ℕ) (kind : Kind) (digits : List ℕ) → l ≡ object_line id kind digits → slice_index l 0 ≡ 111
object_first l id kind digits e =
    ap (λ (t : List ℕ). slice_index t 0) (e ∙ sym (append-nil (object_line id kind digits))) ∙ object_letter id kind digits []

ref_first : (l name id : List ℕ) → l ≡ ref_line name id → slice_index l 0 ≡ 114
ref_first l name id e = ap (λ (t : List ℕ). slice_index t 0) (e ∙ sym (append-nil (ref_line name id))) ∙ ref_letter name id []

end_first : (l : List ℕ) → l ≡ codes "end" → slice_index l 0 ≡ 101
end_first l e = ap (λ (t : List ℕ). slice_index t 0) e

object_no_ref : (l id : List ℕ) (kind : Kind) (digits name i : List ℕ) → l ≡ object_line id kind digits → l ≡ ref_line name i → ⊥
object_no_ref l id kind digits name i e f = let a = object_first l id kind digits e in let b = ref_first l name i f in absurd (omega arith)

object_no_end : (l id : List ℕ) (kind : Kind) (digits : List ℕ) → l ≡ object_line id kind digits → l ≡ codes "end" → ⊥
object_no_end l id kind digits e f = let a = object_first l id kind digits e in let b = end_first l f in absurd (omega arith)

ref_no_end : (l name i : List ℕ) → l ≡ ref_line name i → l ≡ codes "end" → ⊥
ref_no_end l name i e f = let a = ref_first l name i e in let b = end_first l f in absurd (omega arith)

-- an object's line of a size within the limit is an object's line
head_object : (id : List ℕ) (kind : Kind) (size : ℕ) (l : List ℕ) → IsHeadLine id kind size l → IsObjectLine l
head_object id kind size l a = record { id = id; kind = kind; digits = decimal size; is_id = a.is_id; is_number = decimal_is_number size (size_fits size a.small); is = a.is }

huge_no_head : (id : List ℕ) (kind : Kind) (size : ℕ) (l : List ℕ) → IsHugeLine l → IsHeadLine id kind size l → ⊥
huge_no_head id kind size l a b =
    let o = a.object in
    let same = same_object_line o.id id o.kind kind o.digits (decimal size) o.is_id b.is_id (sym o.is ∙ b.is) in
    let value : number_of o.digits ≡ size = ap number_of same.digits ∙ number_of-decimal size (size_fits size b.small) in
    let large = a.huge in
    let small = b.small in
    absurd (omega arith)

same_heads : (id i : List ℕ) (kind k : Kind) (size n : ℕ) (l : List ℕ) → IsHeadLine id kind size l → IsHeadLine i k n l → head id kind size ≡ head i k n
same_heads id i kind k size n l a b =
    let same = same_object_line id i kind k (decimal size) (decimal n) a.is_id b.is_id (sym a.is ∙ b.is) in
    let size_is : size ≡ n = decimal_injective size n (size_fits size a.small) (size_fits n b.small) same.digits in
    λ j. head (same.id j) (same.kind j) (size_is j)

same_refs : (name id m i l : List ℕ) → IsSaying l (ref name id) → IsSaying l (ref m i) → ref name id ≡ ref m i
same_refs name id m i l a b =
    let same = same_ref_line name m id i (name_has_no_space name a.1.name) (name_has_no_space m b.1.name) a.1.id b.1.id (sym a.0 ∙ b.0) in
    λ j. ref (same.0 j) (same.1 j)

-- a line that says something is no other line
known : (l : List ℕ) (s : Saying) → IsOtherLine l → IsSaying l s → s ≡ other
known l other a b = refl
known l huge a b = absurd (a.no_object b.object)
known l (head id kind size) a b = absurd (a.no_object (head_object id kind size l b))
known l (ref name id) a b = absurd (a.no_ref (record { name = name; id = id; is_ref = b.1; is = b.0 }))
known l end a b = absurd (a.no_end b)

pub one_saying : (l : List ℕ) (s t : Saying) → IsSaying l s → IsSaying l t → s ≡ t
one_saying l other t a b = sym (known l t a b)
one_saying l huge other a b = known l huge b a
one_saying l huge huge a b = refl
one_saying l huge (head id kind size) a b = absurd (huge_no_head id kind size l a b)
one_saying l huge (ref name id) a b = absurd (object_no_ref l a.object.id a.object.kind a.object.digits name id a.object.is b.0)
one_saying l huge end a b = absurd (object_no_end l a.object.id a.object.kind a.object.digits a.object.is b)
one_saying l (head id kind size) other a b = known l (head id kind size) b a
one_saying l (head id kind size) huge a b = absurd (huge_no_head id kind size l b a)
one_saying l (head id kind size) (head i k n) a b = same_heads id i kind k size n l a b
one_saying l (head id kind size) (ref name i) a b = absurd (object_no_ref l id kind (decimal size) name i a.is b.0)
one_saying l (head id kind size) end a b = absurd (object_no_end l id kind (decimal size) a.is b)
one_saying l (ref name id) other a b = known l (ref name id) b a
one_saying l (ref name id) huge a b = absurd (object_no_ref l b.object.id b.object.kind b.object.digits name id b.object.is a.0)
one_saying l (ref name id) (head i kind size) a b = absurd (object_no_ref l i kind (decimal size) name id b.is a.0)
one_saying l (ref name id) (ref m i) a b = same_refs name id m i l a b
one_saying l (ref name id) end a b = absurd (ref_no_end l name id a.0 b)
one_saying l end other a b = known l end b a
one_saying l end huge a b = absurd (object_no_end l b.object.id b.object.kind b.object.digits b.object.is a)
one_saying l end (head i kind size) a b = absurd (object_no_end l i kind (decimal size) b.is a)
one_saying l end (ref name id) a b = absurd (ref_no_end l name id b.0 a)
one_saying l end end a b = refl

-- ---- both

pub data Front : Type 0 where
  unended : Front
  ended : Front
  says : Saying → List ℕ → Front

-- a line that says this, and what follows it
pub record SaysLine (s : Saying) (more text : List ℕ) : Type 0 where
  pub line : List ℕ
  pub whole : text ≡ line ++ 10 ∷ more
  pub is_line : IsLine line
  pub says : IsSaying line s

abbrev pub IsFront : List ℕ → Front → Type 0
IsFront text unended = IsLong text
IsFront text ended = IsLine text
IsFront text (says s more) = SaysLine s more text

pub one_front : (text : List ℕ) (f g : Front) → IsFront text f → IsFront text g → f ≡ g
one_front text unended unended a b = refl
one_front text unended ended a b = absurd (long_no_cut text a b)
one_front text unended (says s more) a b = absurd (long_no_line text b.line more a b.whole b.is_line)
one_front text ended unended a b = absurd (long_no_cut text b a)
one_front text ended ended a b = refl
one_front text ended (says s more) a b = absurd (cut_no_line text b.line more a b.whole)
one_front text (says s more) unended a b = absurd (long_no_line text a.line more b a.whole a.is_line)
one_front text (says s more) ended a b = absurd (cut_no_line text a.line more b a.whole)
one_front text (says s more) (says t rest) a b =
    let lines = same_until 10 a.line b.line more rest a.is_line.one b.is_line.one (sym a.whole ∙ b.whole) in
    let said = one_saying a.line s t a.says (subst (λ (l : List ℕ). IsSaying l t) (sym lines.0) b.says) in
    λ i. says (said i) (lines.1 i)
