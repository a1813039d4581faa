-- At each place of a stream something stands: a record that may come, the last line, or what breaks it.
use Rattle.std.proofs.Common.{◌≡◌, ℕ, ◌+◌, ◌≤◌, ◌==◌, false, List, [], ◌∷◌, ◌++◌, Option, Some, None, length, take, drop, refl, sym, ap, ◌∙◌, append_assoc, arith, inl, inr}
use Rattle.std.specs.Prelude.{decimal, slice_index}
use Rattle.std.specs.Ordering.{is_lt}
use Rattle.std.proofs.lemmas.Bool.{cases_eq, cases_lt, or_parts}
use Rattle.std.proofs.lemmas.List.{append-nil, drop_more, length-take-le, take-append-drop}
use Rattle.std.proofs.lemmas.List.Folds.{list_any-append}
use Rattle.octets.specs.BytesMap.{by_bytes}
use Rattle.text_reader.specs.Line.{has_byte}
use Rattle.buffered_reader.specs.Lines.{IsLine, IsLong}
use Rattle.git_object.specs.Objects.{Pair, object_id}
use Rattle.git_object.specs.Repository.{largest_body}
use Rattle.git_object.specs.declared.kinds.Kind.{Kind}
use Rattle.clone_stream.specs.Breaks.{BreaksRecord}
use Rattle.clone_stream.specs.Wrongs.{ComesObject, HasHead, Last}
use Rattle.clone_stream.specs.Reading.{ComesAfter}
use Rattle.clone_stream.specs.Streams.{IsOwn, IsRef, end_line, object_line, object_record, ref_line, ref_record}
use Rattle.clone_stream.specs.declared.stream_faults.Break.{Break}
use Rattle.clone_stream.specs.declared.stream_faults.Break.TheVariants.{BadLine, IdDiffers, Order, TooLarge, Cut}
use Rattle.git_object.proofs.Decisions.{Decided, both, first_byte, is_text, is_true, same_fact}
use Rattle.clone_stream.proofs.Lines.{object_then, ref_then}
use Rattle.clone_stream.proofs.OneBreak.{Body, IsBody, IsOfText, bad, short, whole}
use Rattle.clone_stream.proofs.OneFront.{IsPlace, IsSaying, Place, Saying, cut, end, head, huge, line, long, other, ref}
use Rattle.clone_stream.proofs.SomeSaying.{some_saying}

-- ---- the first line

front_lacks : (c : ℕ) (a b : List ℕ) → has_byte c (a ++ b) ≡ false → has_byte c a ≡ false
front_lacks c a b none = (or_parts (has_byte c a) (has_byte c b) (sym (list_any-append (λ (d : ℕ). d == c) a b) ∙ none)).0

long_front : (n : ℕ) (text a more : List ℕ) → n ≡ 400 → n ≤ length a → text ≡ a ++ more → has_byte 10 a ≡ false → IsLong text
long_front n text a more is enough e none = record {
  front = take n a;
  more = drop n a ++ more;
  whole = e ∙ ap (λ (t : List ℕ). t ++ more) (sym (take-append-drop n a)) ∙ append_assoc (take n a) (drop n a) more;
  one = front_lacks 10 (take n a) (drop n a) (ap (has_byte 10) (take-append-drop n a) ∙ none);
  long = length-take-le n a enough ∙ is;
}

pub record Placed (text : List ℕ) : Type 0 where
  pub place : Place
  pub is : IsPlace text place

pub some_place : (text : List ℕ) → Placed text
some_place text = elim (first_byte 10 text) [
  | inl found ↦ elim (cases_lt 399 (length found.before)) [
    | inl more ↦ record { place = long; is = long_front 400 text found.before (10 ∷ found.after) refl (omega arith) found.whole found.none }
    | inr few ↦ record { place = line found.before found.after; is = (found.whole, record { one = found.none; short = few }) }
  ]
  | inr none ↦ elim (cases_lt 399 (length text)) [
    | inl more ↦ record { place = long; is = long_front 400 text text [] refl (omega arith) (sym (append-nil text)) none }
    | inr few ↦ record { place = cut; is = record { one = none; short = few } }
  ]
]

-- ---- after an object's line

record Bodied (size : ℕ) (rest : List ℕ) : Type 0 where
  body : Body
  is : IsBody size rest body

some_body : (size : ℕ) (rest : List ℕ) → Bodied size rest
some_body size rest = elim (cases_lt size (length rest)) [
  | inl more ↦
      let parts : rest ≡ take size rest ++ slice_index rest size ∷ drop (size + 1) rest =
      sym (take-append-drop size rest) ∙ ap (λ (t : List ℕ). take size rest ++ t) (drop_more rest size 0 more) in
      let size_is : length (take size rest) ≡ size = length-take-le size rest (omega arith) in
      elim (cases_eq (slice_index rest size) 10) [
        | inl feed ↦ record { body = whole (take size rest) (drop (size + 1) rest); is = (parts ∙ ap (λ (c : ℕ). take size rest ++ c ∷ drop (size + 1) rest) feed, size_is) }
        | inr another ↦ record { body = bad; is = record { body = take size rest; byte = slice_index rest size; more = drop (size + 1) rest; whole = parts; long = size_is; other = another } }
      ]
  | inr few ↦ record { body = short; is = few }
]

-- ---- the order of records

comes_after : (last : Option (List ℕ)) (key : List ℕ) → Decided (ComesAfter last key)
comes_after None key = inl tt
comes_after (Some last) key = is_true (is_lt (by_bytes last key))

is_none : (o : Option (List ℕ)) → Decided (o ≡ None)
is_none None = inl refl
is_none (Some x) = inr (λ e. cc e)

object_comes : (last : Last) (id : List ℕ) → Decided (ComesObject last id)
object_comes last id =
    same_fact ((last.name ≡ None) × ComesAfter last.id id) (ComesObject last id) (λ p. record { no_refs = p.0; comes = p.1 }) (λ c. (c.no_refs, c.comes))
    (both (last.name ≡ None) (ComesAfter last.id id) (is_none last.name) (comes_after last.id id))

-- ---- at each place

pub data Step (last : Last) (at : ℕ) (rest : List ℕ) : Type 0 where
  fails : (fault : Break) → IsOfText fault → BreaksRecord last at rest fault → Step last at rest
  ends : (more : List ℕ) → rest ≡ end_line ++ more → Step last at rest
  object : (e : List ℕ × Pair) (more : List ℕ) → IsOwn e → ComesObject last e.0 → rest ≡ object_record e ++ more → Step last at rest
  reference : (f : List ℕ × List ℕ) (more : List ℕ) → IsRef f → ComesAfter last.name f.0 → rest ≡ ref_record f ++ more → Step last at rest

module _ (last : Last) (at : ℕ) (rest : List ℕ) where
  -- an object's line that may come stands in front
  body_step : (id : List ℕ) (kind : Kind) (size : ℕ) (more : List ℕ) → HasHead rest id kind size more → ComesObject last id → (b : Body) → IsBody size more b → Step last at rest
  body_step id kind size more h comes short is =
      fails (Cut ((at + (length (object_line id kind (decimal size)) + 1)) + length more)) tt (inr (inr (record { id = id; kind = kind; size = size; more = more; head = h; comes = comes; breaks = (refl, is) })))
  body_step id kind size more h comes bad is =
      fails (BadLine ((at + (length (object_line id kind (decimal size)) + 1)) + size)) tt (inr (inr (record { id = id; kind = kind; size = size; more = more; head = h; comes = comes; breaks = (refl, is) })))
  body_step id kind size more h comes (whole body after) is = elim (is_text (object_id kind body) id) [
    | inl own ↦
        let entry : List ℕ × Pair = (id, record { kind = kind; body = body }) in
        let small = h.small in
        let size_is = is.1 in
        let there : rest ≡ object_line id kind (decimal (length body)) ++ 10 ∷ (body ++ 10 ∷ after) =
        h.whole ∙ (λ i. object_line id kind (decimal (sym is.1 i)) ++ 10 ∷ is.0 i) in
        object entry after (record { id = h.is_id; is = record { own = own; small = omega arith } }) comes (there ∙ sym (object_then entry after))
    | inr differs ↦ fails (IdDiffers id (object_id kind body)) tt (inr (inr (record {
      id = id;
      kind = kind;
      size = size;
      more = more;
      head = h;
      comes = comes;
      breaks = (refl, record { body = body; more = after; whole = is.0; long = is.1; is = refl; other = differs });
    })))
  ]

  object_step : (id : List ℕ) (kind : Kind) (size : ℕ) (more : List ℕ) → HasHead rest id kind size more → Step last at rest
  object_step id kind size more h = elim (object_comes last id) [
    | inl comes ↦ let b = some_body size more in body_step id kind size more h comes b.body b.is
    | inr late ↦ fails (Order at) tt (inr (inl (refl, inl (record { id = id; kind = kind; size = size; more = more; head = h; late = late }))))
  ]

  -- a line that says this stands in front
  line_step : (l more : List ℕ) → rest ≡ l ++ 10 ∷ more → IsLine l → (s : Saying) → IsSaying l s → Step last at rest
  line_step l more e is other says = fails (BadLine at) tt (inl (refl, inr (record { line = l; more = more; whole = e; is_line = is; wrong = says })))
  line_step l more e is huge says = fails (TooLarge largest_body) tt (inl (refl, record { line = l; more = more; whole = e; is_line = is; wrong = says }))
  line_step l more e is (head id kind size) says =
      object_step id kind size more (record { whole = e ∙ ap (λ (t : List ℕ). t ++ 10 ∷ more) says.is; is_id = says.is_id; small = says.small })
  line_step l more e is (ref name id) says =
      let there : rest ≡ ref_line name id ++ 10 ∷ more = e ∙ ap (λ (t : List ℕ). t ++ 10 ∷ more) says.0 in
      elim (comes_after last.name name) [
        | inl comes ↦ reference (name, id) more says.1 comes (there ∙ sym (ref_then (name, id) more))
        | inr late ↦ fails (Order at) tt (inr (inl (refl, inr (record { name = name; id = id; more = more; whole = there; is_ref = says.1; late = late }))))
      ]
  line_step l more e is end says = ends more (e ∙ ap (λ (t : List ℕ). t ++ 10 ∷ more) says)

  place_step : (p : Place) → IsPlace rest p → Step last at rest
  place_step long is = fails (BadLine at) tt (inl (refl, inl is))
  place_step cut is = fails (Cut (at + length rest)) tt (inl (refl, is))
  place_step (line l more) is = let said = some_saying l in line_step l more is.0 is.1 said.saying said.is

  pub some_step : Step last at rest
  some_step = let p = some_place rest in place_step p.place p.is
