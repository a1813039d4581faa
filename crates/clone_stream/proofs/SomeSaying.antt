-- Each line says something: an object, within the limit or past it, a reference, the end, or none of these.
use Rattle.std.proofs.Common.{◌≡◌, ◌≢◌, ℕ, ◌≤◌, true, false, List, ◌∷◌, ◌++◌, length, refl, sym, ap, subst, ◌∙◌, inl, inr}
use Rattle.std.specs.Prelude.{codes, IsTrue}
use Rattle.std.specs.Bool.{nat_eq}
use Rattle.std.specs.List.{ends_with, list_all, starts_with}
use Rattle.std.specs.Str.{IsUtf8, is_utf8}
use Rattle.std.proofs.lemmas.Bool.{cases_lt, true≢false}
use Rattle.std.proofs.lemmas.Str.{IsUtf8-from_is_utf8, is_utf8-from_IsUtf8}
use Rattle.hex.specs.Hex.{encode_lower}
use Rattle.text_reader.specs.Line.{has_byte}
use Rattle.text_reader.specs.Number.{IsNumber, number_of}
use Rattle.text_reader.proofs.Numbers.{written_number}
use Rattle.text_reader.proofs.Unique.{has_byte_here, same_front, same_until}
use Rattle.git_object.specs.Ids.{IsId}
use Rattle.git_object.specs.Names.{IsRefName, components, has_pair, is_component, is_plain}
use Rattle.git_object.specs.Objects.{kind_name}
use Rattle.git_object.specs.Repository.{largest_body}
use Rattle.git_object.specs.declared.kinds.Kind.{Kind}
use Rattle.git_object.specs.declared.kinds.Kind.TheVariants.{Blob, Tree, Commit, Tag}
use Rattle.git_object.proofs.LineLemmas.{same_id}
use Rattle.git_object.proofs.NameLemmas.{name_has_no_space}
use Rattle.clone_stream.specs.Streams.{IsRef, object_line}
use Rattle.clone_stream.specs.Words.{IsObjectLine, IsRefLine}
use Rattle.git_object.proofs.Decisions.{Decided, begins, both, first_byte, id_front, is_false, is_id_text, is_number, is_text, is_true, is_within, same_fact}
use Rattle.clone_stream.proofs.Lines.{kind_has_no_space, object_parts, ref_parts, same_after_space}
use Rattle.clone_stream.proofs.OneFront.{IsSaying, Saying, end, head, huge, other, ref}
use Rattle.clone_stream.proofs.RecordLines.{size_fits}

-- ---- reference names

is_utf8_text : (text : List ℕ) → Decided (IsUtf8 text)
is_utf8_text text = same_fact (is_utf8 text ≡ true) (IsUtf8 text) (IsUtf8-from_is_utf8 text) (is_utf8-from_IsUtf8 text) (is_true (is_utf8 text))

-- the parts of a name's rules, in three groups
abbrev Formed : List ℕ → Type 0
Formed text = IsTrue (starts_with nat_eq text (codes "refs/")) × (IsUtf8 text × (length text ≤ 255))

abbrev Parted : List ℕ → Type 0
Parted text = (length (components text) ≤ 16) × (IsTrue (list_all is_component (components text)) × IsTrue (list_all is_plain text))

abbrev Plain : List ℕ → Type 0
Plain text = (has_pair 46 46 text ≡ false) × ((has_pair 64 123 text ≡ false) × (ends_with nat_eq text (codes ".") ≡ false))

is_name : (text : List ℕ) → Decided (IsRefName text)
is_name text =
    let formed : Decided (Formed text) =
    both (IsTrue (starts_with nat_eq text (codes "refs/"))) (IsUtf8 text × (length text ≤ 255)) (is_true (starts_with nat_eq text (codes "refs/")))
    (both (IsUtf8 text) (length text ≤ 255) (is_utf8_text text) (is_within (length text) 255)) in
    let parted : Decided (Parted text) =
    both (length (components text) ≤ 16) (IsTrue (list_all is_component (components text)) × IsTrue (list_all is_plain text)) (is_within (length (components text)) 16)
    (both (IsTrue (list_all is_component (components text))) (IsTrue (list_all is_plain text)) (is_true (list_all is_component (components text))) (is_true (list_all is_plain text))) in
    let plain : Decided (Plain text) =
    both (has_pair 46 46 text ≡ false) ((has_pair 64 123 text ≡ false) × (ends_with nat_eq text (codes ".") ≡ false)) (is_false (has_pair 46 46 text))
    (both (has_pair 64 123 text ≡ false) (ends_with nat_eq text (codes ".") ≡ false) (is_false (has_pair 64 123 text)) (is_false (ends_with nat_eq text (codes ".")))) in
    same_fact (Formed text × (Parted text × Plain text)) (IsRefName text)
    (λ p. record {
      begins = p.0.0;
      utf8 = p.0.1.0;
      short = p.0.1.1;
      few = p.1.0.0;
      whole = p.1.0.1.0;
      plain = p.1.0.1.1;
      no_dots = p.1.1.0;
      no_at = p.1.1.1.0;
      no_dot_last = p.1.1.1.1;
    })
    (λ n. ((n.begins, (n.utf8, n.short)), ((n.few, (n.whole, n.plain)), (n.no_dots, (n.no_at, n.no_dot_last)))))
    (both (Formed text) (Parted text × Plain text) formed (both (Parted text) (Plain text) parted plain))

-- ---- a reference's line

is_ref_words : (words : List ℕ) → Decided ((name : List ℕ) × (id : List ℕ) × IsRef (name, id) × (words ≡ name ++ 32 ∷ encode_lower id))
is_ref_words words = elim (first_byte 32 words) [
  | inl found ↦
      let one = λ (name id : List ℕ) (is : IsRef (name, id)) (e : words ≡ name ++ 32 ∷ encode_lower id).
      same_until 32 found.before name found.after (encode_lower id) found.none (name_has_no_space name is.name) (sym found.whole ∙ e) in
      elim (is_name found.before) [
        | inl name ↦ elim (is_id_text found.after) [
          | inl id ↦ inl (found.before, id.id, record { name = name; id = id.is }, found.whole ∙ ap (λ (t : List ℕ). found.before ++ 32 ∷ t) id.text_is)
          | inr none ↦ inr (λ p. none (record { id = p.1; is = p.2.id; text_is = (one p.0 p.1 p.2 p.3).1 }))
        ]
        | inr none ↦ inr (λ p. none (subst IsRefName (sym (one p.0 p.1 p.2 p.3).0) p.2.name))
      ]
  | inr none ↦ inr (λ p. true≢false (sym (has_byte_here 32 p.0 (encode_lower p.1)) ∙ ap (has_byte 32) (sym p.3) ∙ none))
]

is_ref_line : (l : List ℕ) → Decided (IsRefLine l)
is_ref_line l = elim (begins (codes "ref ") l) [
  | inl front ↦ elim (is_ref_words front.0) [
    | inl found ↦ inl (record { name = found.0; id = found.1; is_ref = found.2; is = front.1 ∙ ap (λ (t : List ℕ). codes "ref " ++ t) found.3 ∙ sym (ref_parts found.0 found.1) })
    | inr none ↦ inr (λ r. none (r.name, r.id, r.is_ref, same_front (codes "ref ") front.0 (r.name ++ 32 ∷ encode_lower r.id) (sym front.1 ∙ r.is ∙ ref_parts r.name r.id)))
  ]
  | inr none ↦ inr (λ r. none (r.name ++ 32 ∷ encode_lower r.id, r.is ∙ ref_parts r.name r.id))
]

-- ---- an object's line

is_kind : (word : List ℕ) → Decided ((kind : Kind) × (word ≡ kind_name kind))
is_kind word = elim (is_text word (kind_name Blob)) [
  | inl blob ↦ inl (Blob, blob)
  | inr no_blob ↦ elim (is_text word (kind_name Tree)) [
    | inl tree ↦ inl (Tree, tree)
    | inr no_tree ↦ elim (is_text word (kind_name Commit)) [
      | inl commit ↦ inl (Commit, commit)
      | inr no_commit ↦ elim (is_text word (kind_name Tag)) [ inl tag ↦ inl (Tag, tag) | inr no_tag ↦ inr (λ p. none no_blob no_tree no_commit no_tag p.0 p.1) ]
    ]
  ]
]
  where
    none : word ≢ kind_name Blob → word ≢ kind_name Tree → word ≢ kind_name Commit → word ≢ kind_name Tag → (kind : Kind) → word ≢ kind_name kind
    none b t c g Blob e = b e
    none b t c g Tree e = t e
    none b t c g Commit e = c e
    none b t c g Tag e = g e

-- a kind and the digits of a number
record KindWords (words : List ℕ) : Type 0 where
  kind : Kind
  digits : List ℕ
  number : IsNumber digits
  is : words ≡ kind_name kind ++ 32 ∷ digits

is_kind_words : (words : List ℕ) → Decided (KindWords words)
is_kind_words words = elim (first_byte 32 words) [
  | inl found ↦
      let one = λ (k : KindWords words). same_until 32 found.before (kind_name k.kind) found.after k.digits found.none (kind_has_no_space k.kind) (sym found.whole ∙ k.is) in
      elim (is_kind found.before) [
        | inl kind ↦ elim (is_number found.after) [
          | inl number ↦ inl (record { kind = kind.0; digits = found.after; number = number; is = found.whole ∙ ap (λ (t : List ℕ). t ++ 32 ∷ found.after) kind.1 })
          | inr none ↦ inr (λ k. none (subst IsNumber (sym (one k).1) k.number))
        ]
        | inr none ↦ inr (λ k. none (k.kind, (one k).0))
      ]
  | inr none ↦ inr (λ k. true≢false (sym (has_byte_here 32 (kind_name k.kind) k.digits) ∙ ap (has_byte 32) (sym k.is) ∙ none))
]

-- an id before these
record ObjectWords (words : List ℕ) : Type 0 where
  id : List ℕ
  more : List ℕ
  is_id : IsId id
  then_kind : KindWords more
  is : words ≡ encode_lower id ++ 32 ∷ more

is_object_words : (words : List ℕ) → Decided (ObjectWords words)
is_object_words words = elim (id_front words) [
  | inl front ↦
      let one = λ (o : ObjectWords words). same_id front.id o.id front.more (32 ∷ o.more) front.is o.is_id (sym front.whole ∙ o.is) in
      elim (begins (codes " ") front.more) [
        | inl space ↦ elim (is_kind_words space.0) [
          | inl k ↦ inl (record { id = front.id; more = space.0; is_id = front.is; then_kind = k; is = front.whole ∙ ap (λ (t : List ℕ). encode_lower front.id ++ t) space.1 })
          | inr none ↦ inr (λ o. none (subst KindWords (sym (same_after_space space.0 o.more (sym space.1 ∙ (one o).1))) o.then_kind))
        ]
        | inr none ↦ inr (λ o. none (o.more, (one o).1))
      ]
  | inr none ↦ inr (λ o. none (record { id = o.id; more = 32 ∷ o.more; is = o.is_id; whole = o.is }))
]

-- what an object's line says after its first word
object_words : (l : List ℕ) (o : IsObjectLine l) → ObjectWords (encode_lower o.id ++ 32 ∷ (kind_name o.kind ++ 32 ∷ o.digits))
object_words l o = record { id = o.id; more = kind_name o.kind ++ 32 ∷ o.digits; is_id = o.is_id; then_kind = record { kind = o.kind; digits = o.digits; number = o.is_number; is = refl }; is = refl }

is_object_line : (l : List ℕ) → Decided (IsObjectLine l)
is_object_line l = elim (begins (codes "object ") l) [
  | inl front ↦ elim (is_object_words front.0) [
    | inl w ↦
        let k = w.then_kind in
        inl (record {
          id = w.id;
          kind = k.kind;
          digits = k.digits;
          is_id = w.is_id;
          is_number = k.number;
          is = front.1 ∙ ap (λ (t : List ℕ). codes "object " ++ t) (w.is ∙ ap (λ (t : List ℕ). encode_lower w.id ++ 32 ∷ t) k.is) ∙ sym (object_parts w.id k.kind k.digits);
        })
    | inr none ↦ inr (λ o.
        let words : front.0 ≡ encode_lower o.id ++ 32 ∷ (kind_name o.kind ++ 32 ∷ o.digits) =
        same_front (codes "object ") front.0 (encode_lower o.id ++ 32 ∷ (kind_name o.kind ++ 32 ∷ o.digits)) (sym front.1 ∙ o.is ∙ object_parts o.id o.kind o.digits) in
        none (subst ObjectWords (sym words) (object_words l o)))
  ]
  | inr none ↦ inr (λ o. none (encode_lower o.id ++ 32 ∷ (kind_name o.kind ++ 32 ∷ o.digits), o.is ∙ object_parts o.id o.kind o.digits))
]

-- ---- each line

pub record Said (l : List ℕ) : Type 0 where
  pub saying : Saying
  pub is : IsSaying l saying

said_object : (l : List ℕ) → IsObjectLine l → Said l
said_object l o = elim (cases_lt largest_body (number_of o.digits)) [
  | inl large ↦ record { saying = huge; is = record { object = o; huge = large } }
  | inr small ↦ record {
    saying = head o.id o.kind (number_of o.digits);
    is = record { is = o.is ∙ ap (object_line o.id o.kind) (written_number o.digits o.is_number (size_fits (number_of o.digits) small)); is_id = o.is_id; small = small };
  }
]

pub some_saying : (l : List ℕ) → Said l
some_saying l = elim (is_object_line l) [
  | inl object ↦ said_object l object
  | inr no_object ↦ elim (is_ref_line l) [
    | inl r ↦ record { saying = ref r.name r.id; is = (r.is, r.is_ref) }
    | inr no_ref ↦ elim (is_text l (codes "end")) [
      | inl last ↦ record { saying = end; is = last }
      | inr no_end ↦ record { saying = other; is = record { no_object = no_object; no_ref = no_ref; no_end = no_end } }
    ]
  ]
]
