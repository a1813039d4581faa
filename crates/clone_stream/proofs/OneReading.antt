-- Records that stand in front of a text up to where none that may come follows are read in one way.
use Rattle.std.proofs.Common.{◌≡◌, ◌≢◌, ℕ, true, List, [], ◌∷◌, ◌++◌, length, refl, sym, ap, ◌∙◌, append_assoc, arith}
use Rattle.std.specs.Prelude.{decimal, slice_index}
use Rattle.std.specs.List.{AllByRecursion, flat_map}
use Rattle.std.specs.FinMap.Entries.{below_all, is_sorted}
use Rattle.std.specs.Ordering.{is_lt}
use Rattle.std.proofs.lemmas.Bool.{and_parts, and_from}
use Rattle.std.proofs.lemmas.Fmt.{decimal_injective}
use Rattle.octets.specs.BytesMap.{by_bytes}
use Rattle.text_reader.proofs.Unique.{same_fronts, same_until}
use Rattle.git_object.specs.Objects.{Pair}
use Rattle.git_object.proofs.NameLemmas.{name_has_no_space}
use Rattle.git_object.proofs.Runs.{all_front, all_last, one_run}
use Rattle.clone_stream.specs.Wrongs.{ComesObject, Last}
use Rattle.clone_stream.specs.Fronts.{AreRecords, last_record, records_text}
use Rattle.clone_stream.specs.Reading.{ComesAfter}
use Rattle.clone_stream.specs.Streams.{IsOwn, IsRef, end_line, object_line, object_record, ref_line, ref_record}
use Rattle.clone_stream.proofs.Lasts.{sorted_next}
use Rattle.clone_stream.proofs.Lines.{object_then, ref_then, same_object_line, same_ref_line}
use Rattle.clone_stream.proofs.RecordLines.{object_is_line, object_letter, ref_is_line, ref_letter, size_fits}

-- ---- one record

same_object : (e f : List ℕ × Pair) (x y : List ℕ) → IsOwn e → IsOwn f → object_record e ++ x ≡ object_record f ++ y → (e ≡ f) × (x ≡ y)
same_object e f x y oe of same =
    let m : ℕ = length e.1.body in
    let n : ℕ = length f.1.body in
    let lines = same_until 10 (object_line e.0 e.1.kind (decimal m)) (object_line f.0 f.1.kind (decimal n)) (e.1.body ++ 10 ∷ x) (f.1.body ++ 10 ∷ y)
    (object_is_line e.0 e.1.kind m oe.id oe.is.small).one (object_is_line f.0 f.1.kind n of.id of.is.small).one (sym (object_then e x) ∙ same ∙ object_then f y) in
    let line = same_object_line e.0 f.0 e.1.kind f.1.kind (decimal m) (decimal n) oe.id of.id lines.0 in
    let size : m ≡ n = decimal_injective m n (size_fits m oe.is.small) (size_fits n of.is.small) line.digits in
    let bodies = same_fronts e.1.body f.1.body (10 ∷ x) (10 ∷ y) size lines.1 in
    let rest : x ≡ y = cc (bodies.1) in
    (λ i. (line.id i, record { kind = line.kind i; body = bodies.0 i }), rest)

same_ref : (e f : List ℕ × List ℕ) (x y : List ℕ) → IsRef e → IsRef f → ref_record e ++ x ≡ ref_record f ++ y → (e ≡ f) × (x ≡ y)
same_ref e f x y re rf same =
    let lines = same_until 10 (ref_line e.0 e.1) (ref_line f.0 f.1) x y (ref_is_line e.0 e.1 re).one (ref_is_line f.0 f.1 rf).one (sym (ref_then e x) ∙ same ∙ ref_then f y) in
    let line = same_ref_line e.0 f.0 e.1 f.1 (name_has_no_space e.0 re.name) (name_has_no_space f.0 rf.name) re.id rf.id lines.0 in
    (λ i. (line.0 i, line.1 i), lines.1)

-- ---- rising lists

module _ {X : Type 0} where
  below_front : (key : List ℕ) (es fs : List (List ℕ × X)) → below_all by_bytes key (es ++ fs) ≡ true → below_all by_bytes key es ≡ true
  below_front key [] fs below = refl
  below_front key (e ∷ es) fs below =
      let parts = and_parts (is_lt (by_bytes key e.0)) (below_all by_bytes key (es ++ fs)) below in
      and_from _ _ parts.0 (below_front key es fs parts.1)

  sorted_front : (es fs : List (List ℕ × X)) → is_sorted by_bytes (es ++ fs) ≡ true → is_sorted by_bytes es ≡ true
  sorted_front [] fs sorted = refl
  sorted_front (e ∷ es) fs sorted =
      let parts = and_parts (below_all by_bytes e.0 (es ++ fs)) (is_sorted by_bytes (es ++ fs)) sorted in
      and_from _ _ (below_front e.0 es fs parts.0) (sorted_front es fs parts.1)

abbrev AreObjects : List (List ℕ × Pair) → Type 0
AreObjects es = AllByRecursion IsOwn es × (is_sorted by_bytes es ≡ true)

abbrev AreRefs : List (List ℕ × List ℕ) → Type 0
AreRefs fs = AllByRecursion IsRef fs × (is_sorted by_bytes fs ≡ true)

-- ---- runs of records

-- no record that may come after these stands in front
pub record IsStop (last : Last) (rest : List ℕ) : Type 0 where
  pub no_object : (e : List ℕ × Pair) (more : List ℕ) → IsOwn e → ComesObject last e.0 → rest ≢ object_record e ++ more
  pub no_ref : (f : List ℕ × List ℕ) (more : List ℕ) → IsRef f → ComesAfter last.name f.0 → rest ≢ ref_record f ++ more

-- the last line is no record
pub end_stop : (last : Last) (more : List ℕ) → IsStop last (end_line ++ more)
end_stop last more = record {
  no_object = λ e tail own comes same. let letter : 101 ≡ 111 = ap (λ (u : List ℕ). slice_index u 0) (same ∙ object_then e tail) ∙ object_letter e.0 e.1.kind (decimal (length e.1.body)) (10 ∷ (e.1.body ++ 10 ∷ tail)) in absurd (omega arith);
  no_ref = λ f tail is comes same. let letter : 101 ≡ 114 = ap (λ (u : List ℕ). slice_index u 0) (same ∙ ref_then f tail) ∙ ref_letter f.0 f.1 (10 ∷ tail) in absurd (omega arith);
}

no_more_objects : (es : List (List ℕ × Pair)) (fs : List (List ℕ × List ℕ)) (rest : List ℕ) → IsStop (last_record es fs) rest
    → (e : List ℕ × Pair) (more : List ℕ) → AreObjects (es ++ e ∷ []) → flat_map ref_record fs ++ rest ≢ object_record e ++ more
no_more_objects es [] rest stop e more are same = stop.no_object e more (all_last IsOwn es e are.0) (record { no_refs = refl; comes = sorted_next es [] e are.1 }) same
no_more_objects es (f ∷ fs) rest stop e more are same =
    let front : ref_line f.0 f.1 ++ 10 ∷ (flat_map ref_record fs ++ rest) ≡ object_line e.0 e.1.kind (decimal (length e.1.body)) ++ 10 ∷ (e.1.body ++ 10 ∷ more) =
    sym (append_assoc (ref_record f) (flat_map ref_record fs) rest ∙ ref_then f (flat_map ref_record fs ++ rest)) ∙ same ∙ object_then e more in
    let one = ref_letter f.0 f.1 (10 ∷ (flat_map ref_record fs ++ rest)) in
    let other = object_letter e.0 e.1.kind (decimal (length e.1.body)) (10 ∷ (e.1.body ++ 10 ∷ more)) in
    let both = ap (λ (u : List ℕ). slice_index u 0) front in
    absurd (omega arith)

pub record SameReading (es ds : List (List ℕ × Pair)) (fs gs : List (List ℕ × List ℕ)) (rest tail : List ℕ) : Type 0 where
  pub objects : es ≡ ds
  pub refs : fs ≡ gs
  pub after : rest ≡ tail

pub one_reading : (es ds : List (List ℕ × Pair)) (fs gs : List (List ℕ × List ℕ)) (rest tail : List ℕ) → AreRecords es fs → AreRecords ds gs → IsStop (last_record es fs) rest → IsStop (last_record ds gs) tail
    → records_text es fs ++ rest ≡ records_text ds gs ++ tail → SameReading es ds fs gs rest tail
one_reading es ds fs gs rest tail first second stop other same =
    let grouped : flat_map object_record es ++ (flat_map ref_record fs ++ rest) ≡ flat_map object_record ds ++ (flat_map ref_record gs ++ tail) =
    sym (append_assoc (flat_map object_record es) (flat_map ref_record fs) rest) ∙ same ∙ append_assoc (flat_map object_record ds) (flat_map ref_record gs) tail in
    let objects = one_run object_record AreObjects (λ xs ys are. (all_front IsOwn xs ys are.0, sorted_front xs ys are.1))
    (λ xs e f x y pe pf. same_object e f x y (all_last IsOwn xs e pe.0) (all_last IsOwn xs f pf.0)) [] es ds (flat_map ref_record fs ++ rest) (flat_map ref_record gs ++ tail)
    (first.own, first.ids_rise) (second.own, second.ids_rise) (no_more_objects es fs rest stop) (no_more_objects ds gs tail other) grouped in
    let refs = one_run ref_record AreRefs (λ xs ys are. (all_front IsRef xs ys are.0, sorted_front xs ys are.1))
    (λ xs e f x y pe pf. same_ref e f x y (all_last IsRef xs e pe.0) (all_last IsRef xs f pf.0)) [] fs gs rest tail
    (first.are_refs, first.names_rise) (second.are_refs, second.names_rise)
    (λ f more are. stop.no_ref f more (all_last IsRef fs f are.0) (sorted_next fs [] f are.1)) (λ f more are. other.no_ref f more (all_last IsRef gs f are.0) (sorted_next gs [] f are.1)) objects.1 in
    record { objects = objects.0; refs = refs.0; after = refs.1 }
