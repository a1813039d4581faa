-- How long a text is of which a front went out.
use Rattle.std.proofs.Common.{◌≡◌, ◌≤◌, ◌<◌, ◌++◌, ◌∷◌, [], ℕ, Bool, true, false, List, length, Option, Some, None, Ok, Err, inl, inr, sym, ap, ◌∙◌, subst, arith, length-append}
use Rattle.std.specs.Prelude.{nat_lt}
use Rattle.std.specs.FinMap.{entries}
use Rattle.std.specs.List.{flat_map}
use Rattle.std.proofs.lemmas.Bool.Decides.{nat_tests}
use Rattle.std.proofs.lemmas.Grind.{flat_map-append}
use Rattle.octets.specs.Content.{with_end}
use Rattle.git_object.specs.Repository.{Repository}
use Rattle.clone_stream.specs.Exporting as export
use Rattle.clone_stream.specs.Streams.{end_line, header, object_record, ref_record, stream_text}
use Rattle.clone_stream.specs.declared.export_faults.ExportFault.{ExportFault}
use Rattle.clone_stream.specs.declared.export_faults.ExportFault.TheVariants as fault_
use Rattle.desk_shops.specs.Texts.{IsTextOf, IsTooLarge, PassesAfterObjects, PassesInObjects, fault_as, largest_text}

module _ (r : Repository) (front : List ℕ) where
  objects_long : export.IsObjectsFront r front → largest_text < length front → PassesInObjects r
  objects_long is past =
      let n : length (front ++ is.more) ≡ length (header ++ flat_map object_record is.first) = ap length is.is in
      let m = length-append front is.more in
      record { first = is.first; rest = is.rest; whole = is.whole; own = is.own; past = omega (arith, past, n, m) }

  whole_long : export.IsWholeFront r front → largest_text < length front → PassesAfterObjects r
  whole_long is past =
      let n : length (front ++ is.more) ≡ length (stream_text r) = ap length is.is in
      let m = length-append front is.more in
      record { own = is.own; past = omega (arith, past, n, m) }

  refs_long : export.IsRefsFront r front → largest_text < length front → PassesAfterObjects r
  refs_long is past =
      let objects = flat_map object_record (entries r.objects) in
      let firsts = flat_map ref_record is.first in
      let rests = flat_map ref_record is.rest in
      let refs : flat_map ref_record (entries r.refs) ≡ firsts ++ rests = ap (flat_map ref_record) is.whole ∙ flat_map-append ref_record is.first is.rest in
      let n : length (front ++ is.more) ≡ length (header ++ (objects ++ firsts)) = ap length is.is in
      let text : length (stream_text r) ≡ length (header ++ (objects ++ ((firsts ++ rests) ++ end_line))) = ap (λ (l : List ℕ). length (header ++ (objects ++ (l ++ end_line)))) refs in
      let a = length-append front is.more in
      let b = length-append header (objects ++ firsts) in
      let c = length-append objects firsts in
      let d = length-append header (objects ++ ((firsts ++ rests) ++ end_line)) in
      let e = length-append objects ((firsts ++ rests) ++ end_line) in
      let f = length-append (firsts ++ rests) end_line in
      let h = length-append firsts rests in
      record { own = is.own; past = omega (arith, past, n, text, a, b, c, d, e, f, h) }

  front_long : export.IsFrontText r front → largest_text < length front → IsTooLarge r
  front_long (inl is) past = inl (objects_long is past)
  front_long (inr (inl is)) past = inr (refs_long is past)
  front_long (inr (inr is)) past = inr (whole_long is past)

  passes : export.PassesFirst r → IsTooLarge r
  passes (inl is) = let past = is.past in inl (record { first = is.first; rest = is.rest; whole = is.whole; own = is.own; past = omega (arith, past) })
  passes (inr is) = let past = is.past in inr (record { own = is.own; past = omega (arith, past) })

  damaged_long : (id : List ℕ) → export.IsDamagedAt r id front → largest_text < length front → PassesInObjects r
  damaged_long id is past = record {
    first = is.first;
    rest = (id, is.pair) ∷ is.rest;
    whole = is.whole;
    own = is.own;
    past = subst (λ (l : List ℕ). largest_text < length l) is.is past;
  }

  refuses_by : (fault : ExportFault) (past : Bool) → nat_lt largest_text (length front) ≡ past → export.RefusesText r front fault → IsTextOf r (Err (fault_as past fault))
  refuses_by (fault_.Damaged id) true is why = let long : largest_text < length front = grind (arith, nat_tests) in inl (damaged_long id why long)
  refuses_by (fault_.Damaged id) false is why = let short : length front ≤ largest_text = grind (arith, nat_tests) in record { front = front; damaged = why; within = short }
  refuses_by (fault_.TooLarge limit) past is why = passes why.1
  refuses_by fault_.KeeperFailed past is why = tt
  refuses_by fault_.SinkFailed true is why = let long : largest_text < length front = grind (arith, nat_tests) in front_long why long
  refuses_by fault_.SinkFailed false is why = tt
  refuses_by fault_.Memory true is why = let long : largest_text < length front = grind (arith, nat_tests) in front_long why long
  refuses_by fault_.Memory false is why = tt

abbrev text_or : Option (List ℕ) → List ℕ
text_or (Some text) = text
text_or None = []

-- what went out is all that the sink has
all_of : (text front : List ℕ) → Some text ≡ with_end (Some []) front → text ≡ front
all_of text front is = ap text_or is

-- why there is no text
pub refused_text : (content : Option Repository) (text : List ℕ) (fault : ExportFault) (past : Bool) → past ≡ nat_lt largest_text (length text) → export.RefusesExport content (Some []) (Some text) fault
    → (r : Repository) → content ≡ Some r → IsTextOf r (Err (fault_as past fault))
refused_text content text fault past is refuses r told =
    let same = all_of text refuses.front refuses.gained in
    refuses_by r refuses.front fault past (ap (λ (l : List ℕ). nat_lt largest_text (length l)) (sym same) ∙ sym is) (refuses.told r told)

-- the text is whole, and longer than the limit, or not
pub long_text : (content : Option Repository) (text : List ℕ) → nat_lt largest_text (length text) ≡ true → export.Exports content (Some []) (Some text) → (r : Repository) → content ≡ Some r → IsTooLarge r
long_text content text is exports r told =
    let same = all_of text exports.text exports.gained in
    let whole = exports.told r told in
    let long : largest_text < length text = grind (arith, nat_tests) in
    inr (record { own = whole.objects; past = subst (λ (l : List ℕ). largest_text < length l) (same ∙ whole.text) long })

pub short_text : (content : Option Repository) (text : List ℕ) → nat_lt largest_text (length text) ≡ false → export.Exports content (Some []) (Some text) → (r : Repository) → content ≡ Some r → IsTextOf r (Ok text)
short_text content text is exports r told =
    let same = all_of text exports.text exports.gained in
    let whole = exports.told r told in
    let short : length text ≤ largest_text = grind (arith, nat_tests) in
    (record { objects = whole.objects; refs = whole.refs; text = same ∙ whole.text }, short)
