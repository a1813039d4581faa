-- A repository is exported in one way.
use Rattle.std.proofs.Common.{◌≡◌, ℕ, ◌≤◌, List, [], ◌∷◌, ◌++◌, length, inl, inr, refl, sym, ap, subst, ◌∙◌, append_assoc, arith, length-append}
use Rattle.std.specs.List.{AllByRecursion, flat_map}
use Rattle.std.specs.FinMap.{entries}
use Rattle.git_object.specs.Objects.{Pair}
use Rattle.git_object.specs.Repository.{Repository}
use Rattle.clone_stream.specs.ExportLaws.{OneExport}
use Rattle.clone_stream.specs.Exporting.{IsDamagedAt}
use Rattle.clone_stream.specs.Streams.{IsOwn, end_line, header, object_record, ref_record, stream_text}

abbrev Entry : Type 0
Entry = List ℕ × Pair

all_middle : (xs : List Entry) (x : Entry) (ys : List Entry) → AllByRecursion IsOwn (xs ++ x ∷ ys) → IsOwn x
all_middle [] x ys all = all.0
all_middle (y ∷ xs) x ys all = all_middle xs x ys all.1

flat_append : (xs ys : List Entry) → flat_map object_record (xs ++ ys) ≡ flat_map object_record xs ++ flat_map object_record ys
flat_append [] ys = refl
flat_append (x ∷ xs) ys = ap (λ (t : List ℕ). object_record x ++ t) (flat_append xs ys) ∙ sym (append_assoc (object_record x) (flat_map object_record xs) (flat_map object_record ys))

-- a damaged object is none of those that are not
not_own : (r : Repository) (id front : List ℕ) → IsDamagedAt r id front → AllByRecursion IsOwn (entries r.objects) → ⊥
not_own r id front damaged own =
    damaged.damaged (all_middle damaged.first (id, damaged.pair) damaged.rest (subst (AllByRecursion IsOwn) damaged.whole own)).is

-- the text up to some objects is no longer than the whole
front_shorter : (r : Repository) (first then : List Entry) → entries r.objects ≡ first ++ then → length (header ++ flat_map object_record first) ≤ length (stream_text r)
front_shorter r first then whole =
    let objects = flat_map object_record (entries r.objects) in
    let rest = flat_map ref_record (entries r.refs) ++ end_line in
    let parts : length objects ≡ length (flat_map object_record first ++ flat_map object_record then) = ap (λ (es : List Entry). length (flat_map object_record es)) whole ∙ ap length (flat_append first then) in
    let a = length-append header (flat_map object_record first) in
    let b = length-append header (objects ++ rest) in
    let c = length-append objects rest in
    let d = length-append (flat_map object_record first) (flat_map object_record then) in
    omega arith

-- the first of a list that is not own
same_first : (xs ys : List Entry) (x y : Entry) (us vs : List Entry) → xs ++ x ∷ us ≡ ys ++ y ∷ vs → AllByRecursion IsOwn xs → AllByRecursion IsOwn ys → (IsOwn x → ⊥) → (IsOwn y → ⊥) → x ≡ y
same_first [] [] x y us vs e ox oy nx ny = cc
same_first [] (z ∷ ys) x y us vs e ox oy nx ny = let same : z ≡ x = cc in absurd (nx (subst IsOwn same oy.0))
same_first (z ∷ xs) [] x y us vs e ox oy nx ny = let same : z ≡ y = cc in absurd (ny (subst IsOwn same ox.0))
same_first (z ∷ xs) (w ∷ ys) x y us vs e ox oy nx ny = let rest : xs ++ x ∷ us ≡ ys ++ y ∷ vs = cc in same_first xs ys x y us vs rest ox.1 oy.1 nx ny

-- objects that are own stand before the first that is not
before_first : (xs ys : List Entry) (x : Entry) (us vs : List Entry) → xs ++ x ∷ us ≡ ys ++ vs → AllByRecursion IsOwn ys → (IsOwn x → ⊥) → length (flat_map object_record ys) ≤ length (flat_map object_record xs)
before_first xs [] x us vs e own none = omega arith
before_first [] (z ∷ ys) x us vs e own none = let same : z ≡ x = cc in absurd (none (subst IsOwn same own.0))
before_first (w ∷ xs) (z ∷ ys) x us vs e own none =
    let head : z ≡ w = cc in
    let rest : xs ++ x ∷ us ≡ ys ++ vs = cc in
    let less = before_first xs ys x us vs rest own.1 none in
    let same : length (object_record z) ≡ length (object_record w) = ap (λ (d : Entry). length (object_record d)) head in
    let a = length-append (object_record z) (flat_map object_record ys) in
    let b = length-append (object_record w) (flat_map object_record xs) in
    omega arith

pub one_export : OneExport
one_export = record {
  text_or_damaged = λ r text id front is damaged. not_own r id front damaged is.objects;
  text_or_past = λ r text is short past. elim past [
    | inl early ↦ let less = front_shorter r early.first early.rest early.whole in let long = early.past in let same = ap length is.text in omega arith
    | inr late ↦ let long = late.past in let same = ap length is.text in omega arith
  ];
  one_damaged = λ r id other front before is also.
      ap (λ (e : Entry). e.0) (same_first is.first also.first (id, is.pair) (other, also.pair) is.rest also.rest (sym is.whole ∙ also.whole) is.own also.own (λ own. is.damaged own.is) (λ own. also.damaged own.is));
  damaged_or_past = λ r id front is past. elim past [
    | inl early ↦
        let less = before_first is.first early.first (id, is.pair) is.rest early.rest (sym is.whole ∙ early.whole) early.own (λ own. is.damaged own.is) in
        let a = length-append header (flat_map object_record early.first) in
        let b = length-append header (flat_map object_record is.first) in
        let within = is.within in
        let long = early.past in
        omega arith
    | inr late ↦ not_own r id front is late.own
  ];
}
