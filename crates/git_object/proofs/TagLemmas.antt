-- A tag is read from a body in one way.
use Rattle.std.proofs.Common.{◌≡◌, ℕ, List, ◌++◌, length, sym, ap, ◌∙◌, inl, inr}
use Rattle.std.specs.Prelude.{codes}
use Rattle.git_object.specs.HeaderLines.{type_line}
use Rattle.git_object.specs.Tags.{IsTagText, IsTagFault, HasNoType, object_line}
use Rattle.git_object.specs.declared.tags.Tag.{Tag}
use Rattle.git_object.proofs.LineLemmas.{same_id_line, same_type_line}

pub one_text : (v : Tag) (a b : List ℕ) → IsTagText v a → IsTagText v b → a ≡ b
one_text v a b ia ib = ia.text ∙ sym ib.text

pub one_value : (v w : Tag) (text : List ℕ) → IsTagText v text → IsTagText w text → v ≡ w
one_value v w text iv iw =
    let first = same_id_line (codes "object ") v.object w.object (type_line v.kind ++ v.rest) (type_line w.kind ++ w.rest) iv.object_is iw.object_is (sym iv.text ∙ iw.text) in
    let second = same_type_line v.kind w.kind v.rest w.rest first.1 in
    λ i. record { object = first.0 i; kind = second.0 i; rest = second.1 i }

pub apart : (v : Tag) (text : List ℕ) (at : ℕ) → IsTagText v text → IsTagFault text at → ⊥
apart v text at iv fault = elim fault [
  | inl none ↦ none.no_object v.object (type_line v.kind ++ v.rest) iv.object_is iv.text
  | inr bad ↦
      let first = same_id_line (codes "object ") v.object bad.object (type_line v.kind ++ v.rest) bad.rest iv.object_is bad.object_is (sym iv.text ∙ bad.front) in
      bad.no_type v.kind v.rest (sym first.1)
]

same_bad : (text : List ℕ) (m n : ℕ) → HasNoType text m → HasNoType text n → m ≡ n
same_bad text m n b d =
    let first = same_id_line (codes "object ") b.object d.object b.rest d.rest b.object_is d.object_is (sym b.front ∙ d.front) in
    b.place ∙ ap (λ (id : List ℕ). length (object_line id)) first.0 ∙ sym d.place

pub one_place : (text : List ℕ) (m n : ℕ) → IsTagFault text m → IsTagFault text n → m ≡ n
one_place text m n f g = elim f [
  | inl a ↦ elim g [ inl b ↦ a.place ∙ sym b.place | inr d ↦ absurd (a.no_object d.object d.rest d.object_is d.front) ]
  | inr b ↦ elim g [ inl a ↦ absurd (a.no_object b.object b.rest b.object_is b.front) | inr d ↦ same_bad text m n b d ]
]
