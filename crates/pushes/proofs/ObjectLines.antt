-- The line of an object in front of a text, and what may not stand there.
use Rattle.std.proofs.Common.{◌≡◌, ◌≢◌, ℕ, ◌<◌, ◌≤◌, false, List, ◌∷◌, ◌++◌, Option, Some, None, length, sym, ap, subst, ◌∙◌, arith}
use Rattle.std.specs.Prelude.{decimal, IfNone}
use Rattle.text_reader.specs.Line.{has_byte}
use Rattle.text_reader.specs.Number.{IsNumber, number_of}
use Rattle.text_reader.proofs.Numbers.{decimal_is_number, number_of-decimal}
use Rattle.text_reader.proofs.Unique.{same_fronts, same_until}
use Rattle.std.proofs.lemmas.Fmt.{decimal_injective}
use Rattle.buffered_reader.specs.Lines.{IsLine}
use Rattle.git_object.specs.Ids.{IsId}
use Rattle.git_object.specs.Objects.{Pair, object_id}
use Rattle.git_object.specs.Repository.{largest_body}
use Rattle.git_object.specs.declared.kinds.Kind.{Kind}
use Rattle.clone_stream.specs.Reading.{ComesAfter}
use Rattle.clone_stream.specs.Streams.{IsOwn, object_line, object_record}
use Rattle.clone_stream.proofs.Lines.{SameLine, object_then, same_object_line}
use Rattle.clone_stream.proofs.RecordLines.{object_is_line, size_fits}
use Rattle.pushes.specs.Fronts.{EndsObjects, HasHuge}

pub long_line : (text front rest : List ℕ) → has_byte 10 front ≡ false → text ≡ front ++ 10 ∷ rest → 399 < length front → (line more : List ℕ) → IsLine line
    → text ≢ line ++ 10 ∷ more
long_line text front rest one whole long line more is same =
    let both = same_until 10 front line rest more one is.one (sym whole ∙ same) in
    let e : length front ≡ length line = ap length both.0 in
    let short = is.short in
    omega arith

pub other_head : (text line rest : List ℕ) → IsLine line → text ≡ line ++ 10 ∷ rest
    → ((id : List ℕ) (kind : Kind) (digits : List ℕ) → IsId id → line ≢ object_line id kind digits)
    → (id : List ℕ) (kind : Kind) (digits more : List ℕ) → IsId id → IsLine (object_line id kind digits) → text ≢ object_line id kind digits ++ 10 ∷ more
other_head text line rest is whole none id kind digits more is_id is_line same =
    none id kind digits is_id (same_until 10 line (object_line id kind digits) rest more is.one is_line.one (sym whole ∙ same)).0

-- a body of another length, or of another id, does not stand there
pub no_feed : (text front rest : List ℕ) (size : ℕ) → text ≡ front ++ rest → length front ≡ size → ((after : List ℕ) → rest ≢ 10 ∷ after)
    → (body more : List ℕ) → length body ≡ size → text ≢ body ++ 10 ∷ more
no_feed text front rest size whole len none body more long same = none more (same_fronts front body rest (10 ∷ more) (len ∙ sym long) (sym whole ∙ same)).1

pub other_id : (text front rest id : List ℕ) (kind : Kind) (size : ℕ) → text ≡ front ++ rest → length front ≡ size → object_id kind front ≢ id
    → (body more : List ℕ) → length body ≡ size → object_id kind body ≡ id → text ≢ body ++ 10 ∷ more
other_id text front rest id kind size whole len other body more long own same =
    other (ap (object_id kind) (same_fronts front body rest (10 ∷ more) (len ∙ sym long) (sym whole ∙ same)).0 ∙ own)

-- ---- what ends the objects

-- the line in front is known
pub record HasLine (text id : List ℕ) (kind : Kind) (digits rest : List ℕ) : Type 0 where
  pub whole : text ≡ object_line id kind digits ++ 10 ∷ rest
  pub is_line : IsLine (object_line id kind digits)
  pub is_id : IsId id

pub record Same (a b : List ℕ) (k l : Kind) (x y r s : List ℕ) : Type 0 where
  pub line : SameLine a b k l x y
  pub rest : r ≡ s

pub one_line : (text a b : List ℕ) (k l : Kind) (x y r s : List ℕ) → HasLine text a k x r → HasLine text b l y s → Same a b k l x y r s
one_line text a b k l x y r s p q =
    let both = same_until 10 (object_line a k x) (object_line b l y) r s p.is_line.one q.is_line.one (sym p.whole ∙ q.whole) in
    record { line = same_object_line a b k l x y p.is_id q.is_id both.0; rest = both.1 }

-- the line of an object's record
pub record_line : (text : List ℕ) (e : List ℕ × Pair) (more : List ℕ) → IsOwn e → text ≡ object_record e ++ more
    → HasLine text e.0 e.1.kind (decimal (length e.1.body)) (e.1.body ++ 10 ∷ more)
record_line text e more own same = record {
  whole = same ∙ object_then e more;
  is_line = object_is_line e.0 e.1.kind (length e.1.body) own.id own.is.small;
  is_id = own.id;
}

pub huge_line : (text : List ℕ) (told : ℕ) → (h : HasHuge text told) → HasLine text h.id h.kind h.digits h.more
huge_line text told h = record { whole = h.whole; is_line = h.is_line; is_id = h.is_id }

pub ends_no_head : (last : Option (List ℕ)) (text : List ℕ)
    → ((id : List ℕ) (kind : Kind) (digits more : List ℕ) → IsId id → IsLine (object_line id kind digits) → text ≢ object_line id kind digits ++ 10 ∷ more)
    → EndsObjects last text
ends_no_head last text none = record {
  no_object = λ e more own comes same.
      let l = record_line text e more own same in
      none e.0 e.1.kind (decimal (length e.1.body)) (e.1.body ++ 10 ∷ more) l.is_id l.is_line l.whole;
  no_huge = λ told h. none h.id h.kind h.digits h.more h.is_id h.is_line h.whole;
}

module _ (last : Option (List ℕ)) (text id : List ℕ) (kind : Kind) (digits rest : List ℕ) (has : HasLine text id kind digits rest) where
  pub ends_no_number : (IsNumber digits → ⊥) → EndsObjects last text
  ends_no_number none = record {
    no_object = λ e more own comes same.
        let n : ℕ = length e.1.body in
        let one = one_line text id e.0 kind e.1.kind digits (decimal n) rest (e.1.body ++ 10 ∷ more) has (record_line text e more own same) in
        none (subst IsNumber (sym one.line.digits) (decimal_is_number n (size_fits n own.is.small)));
    no_huge = λ told h.
        let one = one_line text id h.id kind h.kind digits h.digits rest h.more has (huge_line text told h) in
        none (subst IsNumber (sym one.line.digits) h.is_number);
  }

  no_huge : (size : ℕ) → digits ≡ decimal size → size ≤ largest_body → (told : ℕ) → HasHuge text told → ⊥
  no_huge size is small told h =
      let one = one_line text id h.id kind h.kind digits h.digits rest h.more has (huge_line text told h) in
      let value : number_of h.digits ≡ size = ap number_of (sym one.line.digits ∙ is) ∙ number_of-decimal size (size_fits size small) in
      let large = h.huge in
      absurd (omega arith)

  pub ends_late : (size : ℕ) → digits ≡ decimal size → size ≤ largest_body → (ComesAfter last id → ⊥) → EndsObjects last text
  ends_late size is small late = record {
    no_object = λ e more own comes same.
        let one = one_line text id e.0 kind e.1.kind digits (decimal (length e.1.body)) rest (e.1.body ++ 10 ∷ more) has (record_line text e more own same) in
        late (subst (ComesAfter last) (sym one.line.id) comes);
    no_huge = no_huge size is small;
  }

  pub ends_no_body : (size : ℕ) → digits ≡ decimal size → size ≤ largest_body
      → ((body more : List ℕ) → length body ≡ size → object_id kind body ≡ id → rest ≢ body ++ 10 ∷ more) → EndsObjects last text
  ends_no_body size is small none = record {
    no_object = λ e more own comes same.
        let n : ℕ = length e.1.body in
        let one = one_line text id e.0 kind e.1.kind digits (decimal n) rest (e.1.body ++ 10 ∷ more) has (record_line text e more own same) in
        let long : n ≡ size = decimal_injective n size (size_fits n own.is.small) (size_fits size small) (sym one.line.digits ∙ is) in
        none e.1.body more long (ap (λ (k : Kind). object_id k e.1.body) one.line.kind ∙ own.is.own ∙ sym one.line.id) one.rest;
    no_huge = no_huge size is small;
  }

pub if_none : {A : Type 0} {P Q : Type 0} (o : Option A) → IfNone o P → (P → Q) → IfNone o Q
if_none None p f = f p
if_none (Some x) p f = tt
