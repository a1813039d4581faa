-- What breaks a whole text: of all that may break first, one, and nothing in the text of a repository.
use Rattle.std.proofs.Common.{◌≡◌, ◌≢◌, ℕ, ◌+◌, List, [], ◌++◌, length, refl, sym, ap, subst, ◌∙◌, arith, inl, inr}
use Rattle.std.specs.Prelude.{codes, ◌⊎◌}
use Rattle.std.specs.FinMap.{entries}
use Rattle.std.proofs.lemmas.List.{append-nil}
use Rattle.text_reader.proofs.Unique.{same_front}
use Rattle.buffered_reader.specs.Lines.{IsLine}
use Rattle.git_object.specs.Objects.{Pair}
use Rattle.git_object.specs.Repository.{Repository}
use Rattle.clone_stream.specs.Breaks.{BreaksEnd, BreaksHeader}
use Rattle.clone_stream.specs.Fronts.{AreRecords, BreaksAfterHeader, FirstBreak, last_record, records_text}
use Rattle.clone_stream.specs.Streams.{IsStreamText, end_line, header}
use Rattle.clone_stream.specs.declared.stream_faults.Break.{Break}
use Rattle.clone_stream.specs.declared.stream_faults.Break.TheVariants.{BadLine, IdDiffers, Order, TooLarge, Cut, Failed, Memory}
use Rattle.clone_stream.proofs.OneBreak.{BreaksAt, IsOfText, break_at, break_no_end, break_stop, one_break}
use Rattle.clone_stream.proofs.OneFront.{IsPlace, Place, cut, line, long, one_place}
use Rattle.clone_stream.proofs.OneReading.{IsStop, SameReading, end_stop, one_reading}
use Rattle.clone_stream.proofs.StreamParts.{stream_records, stream_split}

-- ---- in the first line

abbrev HeaderAs : List ℕ → Break → Place → Type 0
HeaderAs text fault long = fault ≡ BadLine 0
HeaderAs text fault cut = fault ≡ Cut (length text)
HeaderAs text fault (line l more) = (fault ≡ BadLine 0) × (l ≢ codes "gittuf-stream 1")

record HeaderAt (text : List ℕ) (fault : Break) : Type 0 where
  place : Place
  is : IsPlace text place
  as_it : HeaderAs text fault place

header_at : (text : List ℕ) (fault : Break) → BreaksHeader text fault → IsOfText fault → HeaderAt text fault
header_at text (BadLine p) b of = elim b.1 [
  | inl is ↦ record { place = long; is = is; as_it = ap BadLine b.0 }
  | inr wrong ↦ record { place = line wrong.line wrong.more; is = (wrong.whole, wrong.is_line); as_it = (ap BadLine b.0, wrong.wrong) }
]
header_at text (IdDiffers id found) b of = absurd b
header_at text (Order p) b of = absurd b
header_at text (TooLarge limit) b of = absurd b
header_at text (Cut p) b of = record { place = cut; is = b.1; as_it = ap Cut b.0 }
header_at text (Failed p) b of = absurd of
header_at text Memory b of = absurd of

one_as : (text : List ℕ) (a b : Break) (p : Place) → HeaderAs text a p → HeaderAs text b p → a ≡ b
one_as text a b long x y = x ∙ sym y
one_as text a b cut x y = x ∙ sym y
one_as text a b (line l more) x y = x.0 ∙ sym y.0

one_header : (text : List ℕ) (a b : Break) → HeaderAt text a → HeaderAt text b → a ≡ b
one_header text a b x y = one_as text a b y.place (subst (HeaderAs text a) (one_place text x.place y.place x.is y.is) x.as_it) y.as_it

pub header_is_line : IsLine (codes "gittuf-stream 1")
header_is_line = record { one = refl; short = omega arith }

-- where the first line is the header, nothing breaks in it
no_header : (text rest : List ℕ) (fault : Break) → HeaderAt text fault → text ≡ header ++ rest → ⊥
no_header text rest fault x e =
    (subst (HeaderAs text fault) (one_place text x.place (line (codes "gittuf-stream 1") rest) x.is (e, header_is_line)) x.as_it).1 refl

-- ---- after it

-- records stand after the header, and none that may come stands after them
record Reads (text : List ℕ) (es : List (List ℕ × Pair)) (fs : List (List ℕ × List ℕ)) (rest : List ℕ) : Type 0 where
  are : AreRecords es fs
  front : text ≡ header ++ (records_text es fs ++ rest)
  stop : IsStop (last_record es fs) rest

one_read : (text : List ℕ) (es ds : List (List ℕ × Pair)) (fs gs : List (List ℕ × List ℕ)) (rest tail : List ℕ) → Reads text es fs rest → Reads text ds gs tail → SameReading es ds fs gs rest tail
one_read text es ds fs gs rest tail a b =
    one_reading es ds fs gs rest tail a.are b.are a.stop b.stop (same_front header (records_text es fs ++ rest) (records_text ds gs ++ tail) (sym a.front ∙ b.front))

-- after the last line stands more
record OverAt (at : ℕ) (rest : List ℕ) (fault : Break) : Type 0 where
  more : List ℕ
  whole : rest ≡ end_line ++ more
  some : more ≢ []
  is : fault ≡ BadLine (at + 4)

over_at : (at : ℕ) (rest : List ℕ) (fault : Break) → BreaksEnd at rest fault → IsOfText fault → OverAt at rest fault
over_at at rest (BadLine p) b of = record { more = b.1.more; whole = b.1.whole; some = b.1.some; is = ap BadLine b.0 }
over_at at rest (IdDiffers id found) b of = absurd b
over_at at rest (Order p) b of = absurd b
over_at at rest (TooLarge limit) b of = absurd b
over_at at rest (Cut p) b of = absurd b
over_at at rest (Failed p) b of = absurd of
over_at at rest Memory b of = absurd of

-- what breaks where reading stops
abbrev StopsBy : List (List ℕ × Pair) → List (List ℕ × List ℕ) → List ℕ → Break → Type 0
StopsBy es fs rest fault =
    let at : ℕ = length header + length (records_text es fs) in
    BreaksAt (last_record es fs) at rest fault ⊎ OverAt at rest fault

record BreaksAfter (text : List ℕ) (fault : Break) : Type 0 where
  es : List (List ℕ × Pair)
  fs : List (List ℕ × List ℕ)
  rest : List ℕ
  reads : Reads text es fs rest
  stops : StopsBy es fs rest fault

breaks_after : (text : List ℕ) (fault : Break) → BreaksAfterHeader text fault → IsOfText fault → BreaksAfter text fault
breaks_after text fault b of = elim b.breaks [
  | inl r ↦
      let breaks = break_at (last_record r.objects r.refs) (length header + length (records_text r.objects r.refs)) r.rest fault r.breaks of in
      record {
        es = r.objects;
        fs = r.refs;
        rest = r.rest;
        reads = record {
          are = r.are;
          front = b.front ∙ ap (λ (t : List ℕ). header ++ t) r.front;
          stop = break_stop (last_record r.objects r.refs) (length header + length (records_text r.objects r.refs)) r.rest fault breaks;
        };
        stops = inl breaks;
      }
  | inr r ↦
      let over = over_at (length header + length (records_text r.objects r.refs)) r.rest fault r.breaks of in
      record {
        es = r.objects;
        fs = r.refs;
        rest = r.rest;
        reads = record {
          are = r.are;
          front = b.front ∙ ap (λ (t : List ℕ). header ++ t) r.front;
          stop = subst (IsStop (last_record r.objects r.refs)) (sym over.whole) (end_stop (last_record r.objects r.refs) over.more);
        };
        stops = inr over;
      }
]

one_stop : (es : List (List ℕ × Pair)) (fs : List (List ℕ × List ℕ)) (rest : List ℕ) (a b : Break) → StopsBy es fs rest a → StopsBy es fs rest b → a ≡ b
one_stop es fs rest a b x y =
    let last = last_record es fs in
    let at : ℕ = length header + length (records_text es fs) in
    elim x [
      | inl p ↦ elim y [ inl q ↦ one_break last at rest a b p q | inr q ↦ absurd (break_no_end last at rest q.more a p q.whole) ]
      | inr p ↦ elim y [ inl q ↦ absurd (break_no_end last at rest p.more b q p.whole) | inr q ↦ p.is ∙ sym q.is ]
    ]

one_after : (text : List ℕ) (a b : Break) → BreaksAfter text a → BreaksAfter text b → a ≡ b
one_after text a b x y =
    let same = one_read text x.es y.es x.fs y.fs x.rest y.rest x.reads y.reads in
    let there : StopsBy y.es y.fs y.rest a =
    subst (λ (t : List (List ℕ × Pair) × List (List ℕ × List ℕ) × List ℕ). StopsBy t.0 t.1 t.2 a) (λ i. (same.objects i, same.refs i, same.after i)) x.stops in
    one_stop y.es y.fs y.rest a b there y.stops

-- ---- whole texts

-- a text breaks first in one way
pub one_first : (text : List ℕ) (a b : Break) → FirstBreak text a → FirstBreak text b → IsOfText a → IsOfText b → a ≡ b
one_first text a b x y of too = elim x [
  | inl p ↦ elim y [ inl q ↦ one_header text a b (header_at text a p of) (header_at text b q too) | inr q ↦ absurd (no_header text q.rest a (header_at text a p of) q.front) ]
  | inr p ↦ elim y [ inl q ↦ absurd (no_header text p.rest b (header_at text b q too) p.front) | inr q ↦ one_after text a b (breaks_after text a p of) (breaks_after text b q too) ]
]

-- nothing breaks in the text of a repository
pub stream_unbroken : (r : Repository) (text : List ℕ) (fault : Break) → IsStreamText r text → FirstBreak text fault → IsOfText fault → ⊥
stream_unbroken r text fault is b of = elim b [
  | inl p ↦ no_header text (records_text (entries r.objects) (entries r.refs) ++ end_line) fault (header_at text fault p of) (stream_split r text is)
  | inr p ↦ after (breaks_after text fault p of)
]
  where
    after : BreaksAfter text fault → ⊥
    after x =
        let nothing : end_line ++ [] ≡ end_line = append-nil end_line in
        let reads : Reads text (entries r.objects) (entries r.refs) end_line = record {
          are = stream_records r text is;
          front = stream_split r text is;
          stop = subst (IsStop (last_record (entries r.objects) (entries r.refs))) nothing (end_stop (last_record (entries r.objects) (entries r.refs)) []);
        } in
        let same = one_read text x.es (entries r.objects) x.fs (entries r.refs) x.rest end_line x.reads reads in
        elim x.stops [
          | inl p ↦ break_no_end (last_record x.es x.fs) (length header + length (records_text x.es x.fs)) x.rest [] fault p (same.after ∙ sym nothing)
          | inr p ↦ p.some (same_front end_line p.more [] (sym p.whole ∙ same.after ∙ sym nothing))
        ]
