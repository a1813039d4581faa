-- A text is refused in one way, and no push is refused.
use Rattle.std.proofs.Common.{◌≡◌, ◌≢◌, ℕ, ◌≤◌, ◌+◌, ◌-◌, ◌^◌, true, List, [], ◌∷◌, ◌++◌, length, map, min, refl, sym, ap, subst, ◌∙◌, arith, inl, inr}
use Rattle.std.specs.Prelude.{decimal, slice_index}
use Rattle.std.specs.List.{AllByRecursion, flat_map}
use Rattle.std.specs.FinMap.Entries.{below_all, is_sorted}
use Rattle.std.specs.Ordering.{is_lt}
use Rattle.std.proofs.lemmas.Bool.{and_parts, and_from}
use Rattle.std.proofs.lemmas.Fmt.{decimal_injective}
use Rattle.octets.specs.BytesMap.{by_bytes}
use Rattle.text_reader.specs.Number.{number_of}
use Rattle.text_reader.proofs.Numbers.{number_of-decimal}
use Rattle.text_reader.proofs.Unique.{same_front, same_fronts}
use Rattle.git_object.specs.Objects.{Pair}
use Rattle.git_object.proofs.Runs.{all_front, all_last, one_run}
use Rattle.rsl_chain.specs.declared.entries.Entry.{Entry}
use Rattle.clone_stream.specs.Fronts.{AreRecords}
use Rattle.clone_stream.specs.Reading.{ComesAfter, last_of}
use Rattle.clone_stream.specs.Streams.{IsOwn, object_record}
use Rattle.clone_stream.proofs.Lasts.{sorted_next}
use Rattle.clone_stream.proofs.Lines.{object_then}
use Rattle.clone_stream.proofs.RecordLines.{object_letter, size_fits}
use Rattle.pushes.specs.Fronts.{HasHuge, HasHugeNext, IsObjects, keys}
use Rattle.pushes.specs.Laws.{OneRefusal}
use Rattle.pushes.specs.Pushes.{IsPushText, end_line, entry_in, entry_line, header, largest_push, own_record}
use Rattle.pushes.specs.Refusals.{HasEntry, HasHugeObject, IsMalformedAt, IsRefused}
use Rattle.pushes.specs.declared.push_faults.PushFault.{PushFault}
use Rattle.pushes.specs.declared.push_faults.PushFault.TheVariants.{Malformed, TooLarge, Memory}
use Rattle.pushes.specs.declared.pushed.Push.{Push}
use Rattle.pushes.proofs.EntryLines.{after_feed, one_entry_line}
use Rattle.pushes.proofs.ObjectLines.{huge_line, one_line, record_line}
use Rattle.pushes.proofs.Whole.{entry_letter, records_of}

-- ---- one place where objects stop

same_object : (e f : List ℕ × Pair) (x y : List ℕ) → IsOwn e → IsOwn f → object_record e ++ x ≡ object_record f ++ y → (e ≡ f) × (x ≡ y)
same_object e f x y oe of same =
    let m : ℕ = length e.1.body in
    let n : ℕ = length f.1.body in
    let one = one_line (object_record e ++ x) e.0 f.0 e.1.kind f.1.kind (decimal m) (decimal n) (e.1.body ++ 10 ∷ x) (f.1.body ++ 10 ∷ y)
    (record_line (object_record e ++ x) e x oe refl) (record_line (object_record e ++ x) f y of same) in
    let size : m ≡ n = decimal_injective m n (size_fits m oe.is.small) (size_fits n of.is.small) one.line.digits in
    let bodies = same_fronts e.1.body f.1.body (10 ∷ x) (10 ∷ y) size one.rest in
    (λ i. (one.line.id i, record { kind = one.line.kind i; body = bodies.0 i }), after_feed x y bodies.1)

below_front : (key : List ℕ) (es fs : List (List ℕ × Pair)) → below_all by_bytes key (es ++ fs) ≡ true → below_all by_bytes key es ≡ true
below_front key [] fs below = refl
below_front key (e ∷ es) fs below =
    let parts = and_parts (is_lt (by_bytes key e.0)) (below_all by_bytes key (es ++ fs)) below in
    and_from _ _ parts.0 (below_front key es fs parts.1)

sorted_front : (es fs : List (List ℕ × Pair)) → is_sorted by_bytes (es ++ fs) ≡ true → is_sorted by_bytes es ≡ true
sorted_front [] fs sorted = refl
sorted_front (e ∷ es) fs sorted =
    let parts = and_parts (below_all by_bytes e.0 (es ++ fs)) (is_sorted by_bytes (es ++ fs)) sorted in
    and_from _ _ (below_front e.0 es fs parts.0) (sorted_front es fs parts.1)

abbrev AreObjects : List (List ℕ × Pair) → Type 0
AreObjects es = AllByRecursion IsOwn es × (is_sorted by_bytes es ≡ true)

-- no object that may come after these stands in front
abbrev Stops : List (List ℕ × Pair) → List ℕ → Type 0
Stops es rest = (e : List ℕ × Pair) (more : List ℕ) → IsOwn e → ComesAfter (last_of (keys es)) e.0 → rest ≢ object_record e ++ more

one_stop : (es ds : List (List ℕ × Pair)) (rest tail : List ℕ) → AreRecords es [] → AreRecords ds [] → Stops es rest → Stops ds tail
    → flat_map object_record es ++ rest ≡ flat_map object_record ds ++ tail → (es ≡ ds) × (rest ≡ tail)
one_stop es ds rest tail first second stop other =
    one_run object_record AreObjects (λ xs ys are. (all_front IsOwn xs ys are.0, sorted_front xs ys are.1))
    (λ xs e f x y pe pf. same_object e f x y (all_last IsOwn xs e pe.0) (all_last IsOwn xs f pf.0)) [] es ds rest tail
    (first.own, first.ids_rise) (second.own, second.ids_rise)
    (λ e more are. stop e more (all_last IsOwn es e are.0) (sorted_next es [] e are.1))
    (λ e more are. other e more (all_last IsOwn ds e are.0) (sorted_next ds [] e are.1))

-- the line of an object that is too large begins no object
huge_stops : (es : List (List ℕ × Pair)) (rest : List ℕ) (told : ℕ) → HasHuge rest told → Stops es rest
huge_stops es rest told h e more own comes same =
    let n : ℕ = length e.1.body in
    let one = one_line rest h.id e.0 h.kind e.1.kind h.digits (decimal n) h.more (e.1.body
    ++ 10 ∷ more) (huge_line rest told h) (record_line rest e more own same) in
    let value : number_of h.digits ≡ n = ap number_of one.line.digits ∙ number_of-decimal n (size_fits n own.is.small) in
    let large = h.huge in
    let small = own.is.small in
    absurd (omega arith)

one_told : (rest : List ℕ) (a b : ℕ) → HasHuge rest a → HasHuge rest b → a ≡ b
one_told rest a b h k =
    let one = one_line rest h.id k.id h.kind k.kind h.digits k.digits h.more k.more (huge_line rest a h) (huge_line rest b k) in
    h.told_is ∙ ap (λ (digits : List ℕ). min (number_of digits) (2 ^ 64 - 1)) one.line.digits ∙ sym k.told_is

module _ (text : List ℕ) where
  one_objects : (os ps : List Pair) (r s : List ℕ) → IsObjects text os r → IsObjects text ps s → (os ≡ ps) × (r ≡ s)
  one_objects os ps r s a b =
      let one = one_stop a.es b.es r s a.front.own.are b.front.own.are a.ends.no_object b.ends.no_object (sym a.front.front ∙ b.front.front) in
      (a.front.own.objects_are ∙ ap (map (λ (e : List ℕ × Pair). e.1)) one.0 ∙ sym b.front.own.objects_are, one.1)

  no_huge_next : (os : List Pair) (r : List ℕ) (told : ℕ) → IsObjects text os r → HasHugeNext text told → ⊥
  no_huge_next os r told a b =
      let one = one_stop a.es b.es r b.rest a.front.own.are b.front.own.are a.ends.no_object (huge_stops b.es b.rest told b.huge) (sym a.front.front
      ∙ b.front.front) in
      a.ends.no_huge told (subst (λ (rest : List ℕ). HasHuge rest told) (sym one.1) b.huge)

  one_huge_next : (x y : ℕ) → HasHugeNext text x → HasHugeNext text y → x ≡ y
  one_huge_next x y a b =
      let one = one_stop a.es b.es a.rest b.rest a.front.own.are b.front.own.are (huge_stops a.es a.rest x a.huge) (huge_stops b.es b.rest y b.huge)
      (sym a.front.front ∙ b.front.front) in
      one_told b.rest x y (subst (λ (rest : List ℕ). HasHuge rest x) one.1 a.huge) b.huge

-- ---- the parts of a text that is read so far

module _ (text m n : List ℕ) (p : text ≡ header ++ m) (q : text ≡ header ++ n) where
  behind : m ≡ n
  behind = same_front header m n (sym p ∙ q)

  same_rest : (os ps : List Pair) (r s : List ℕ) → IsObjects m os r → IsObjects n ps s → (os ≡ ps) × (r ≡ s)
  same_rest os ps r s a b = one_objects n os ps r s (subst (λ (t : List ℕ). IsObjects t os r) behind a) b

  none_huge : (os : List Pair) (r : List ℕ) (told : ℕ) → IsObjects m os r → HasHugeNext n told → ⊥
  none_huge os r told a b = no_huge_next n os r told (subst (λ (t : List ℕ). IsObjects t os r) behind a) b

  same_huge : (x y : ℕ) → HasHugeNext m x → HasHugeNext n y → x ≡ y
  same_huge x y a b = one_huge_next n x y (subst (λ (t : List ℕ). HasHugeNext t x) behind a) b

moved : (os ps : List Pair) (r s : List ℕ) (entry : Entry) (after : List ℕ) → (os ≡ ps) × (r ≡ s) → HasEntry ps s entry after → HasEntry os r entry after
moved os ps r s entry after same has = record {
  id = has.id;
  whole = same.1 ∙ has.whole;
  entry_is = ap (λ (objects : List Pair). entry_in objects entry.id) same.0 ∙ has.entry_is;
}

same_after : (os : List Pair) (r : List ℕ) (e f : Entry) (x y : List ℕ) → HasEntry os r e x → HasEntry os r f y → x ≡ y
same_after os r e f x y a b = after_feed x y (one_entry_line e.id f.id (10 ∷ x) (10 ∷ y) a.id b.id (sym a.whole ∙ b.whole)).1

same_place : (text r s : List ℕ) (a b : ℕ) → r ≡ s → a + length r ≡ length text → b + length s ≡ length text → a ≡ b
same_place text r s a b same x y = let e = ap length same in omega arith

-- ---- one place

one_malformed : (text : List ℕ) (a b : ℕ) → IsMalformedAt text a → IsMalformedAt text b → a ≡ b
one_malformed text a b (inl x) (inl y) = x.place ∙ sym y.place
one_malformed text a b (inl x) (inr (inl y)) = absurd (x.no_header y.more y.first)
one_malformed text a b (inl x) (inr (inr (inl y))) = absurd (x.no_header y.more y.first)
one_malformed text a b (inl x) (inr (inr (inr y))) = absurd (x.no_header y.more y.first)
one_malformed text a b (inr (inl x)) (inl y) = absurd (y.no_header x.more x.first)
one_malformed text a b (inr (inr (inl x))) (inl y) = absurd (y.no_header x.more x.first)
one_malformed text a b (inr (inr (inr x))) (inl y) = absurd (y.no_header x.more x.first)
one_malformed text a b (inr (inl x)) (inr (inl y)) =
    same_place text x.rest y.rest a b (same_rest text x.more y.more x.first y.first x.objects y.objects x.rest y.rest x.front y.front).1 x.place y.place
one_malformed text a b (inr (inl x)) (inr (inr (inl y))) =
    absurd (x.no_entry y.entry y.after
    (moved x.objects y.objects x.rest y.rest y.entry y.after
    (same_rest text x.more y.more x.first y.first x.objects y.objects x.rest y.rest x.front y.front) y.has))
one_malformed text a b (inr (inl x)) (inr (inr (inr y))) =
    absurd (x.no_entry y.entry (end_line ++ y.tail)
    (moved x.objects y.objects x.rest y.rest y.entry (end_line
    ++ y.tail) (same_rest text x.more y.more x.first y.first x.objects y.objects x.rest y.rest x.front y.front) y.has))
one_malformed text a b (inr (inr (inl x))) (inr (inl y)) =
    absurd (y.no_entry x.entry x.after
    (moved y.objects x.objects y.rest x.rest x.entry x.after
    (same_rest text y.more x.more y.first x.first y.objects x.objects y.rest x.rest y.front x.front) x.has))
one_malformed text a b (inr (inr (inr x))) (inr (inl y)) =
    absurd (y.no_entry x.entry (end_line ++ x.tail)
    (moved y.objects x.objects y.rest x.rest x.entry (end_line
    ++ x.tail) (same_rest text y.more x.more y.first x.first y.objects x.objects y.rest x.rest y.front x.front) x.has))
one_malformed text a b (inr (inr (inl x))) (inr (inr (inl y))) =
    let has = moved x.objects y.objects x.rest y.rest y.entry y.after
    (same_rest text x.more y.more x.first y.first x.objects y.objects x.rest y.rest x.front y.front) y.has in
    same_place text x.after y.after a b (same_after x.objects x.rest x.entry y.entry x.after y.after x.has has) x.place y.place
one_malformed text a b (inr (inr (inl x))) (inr (inr (inr y))) =
    let has = moved x.objects y.objects x.rest y.rest y.entry (end_line
    ++ y.tail) (same_rest text x.more y.more x.first y.first x.objects y.objects x.rest y.rest x.front y.front) y.has in
    absurd (x.no_end y.tail (same_after x.objects x.rest x.entry y.entry x.after (end_line ++ y.tail) x.has has))
one_malformed text a b (inr (inr (inr x))) (inr (inr (inl y))) =
    let has = moved y.objects x.objects y.rest x.rest x.entry (end_line
    ++ x.tail) (same_rest text y.more x.more y.first x.first y.objects x.objects y.rest x.rest y.front x.front) x.has in
    absurd (y.no_end x.tail (same_after y.objects y.rest y.entry x.entry y.after (end_line ++ x.tail) y.has has))
one_malformed text a b (inr (inr (inr x))) (inr (inr (inr y))) =
    let has = moved x.objects y.objects x.rest y.rest y.entry (end_line
    ++ y.tail) (same_rest text x.more y.more x.first y.first x.objects y.objects x.rest y.rest x.front y.front) y.has in
    same_place text x.tail y.tail a b (same_front end_line x.tail y.tail (same_after x.objects x.rest x.entry y.entry (end_line ++ x.tail) (end_line
    ++ y.tail) x.has has)) x.place y.place

malformed_no_huge : (text : List ℕ) (at told : ℕ) → IsMalformedAt text at → HasHugeObject text told → ⊥
malformed_no_huge text at told (inl x) h = x.no_header h.more h.first
malformed_no_huge text at told (inr (inl x)) h = none_huge text x.more h.more x.first h.first x.objects x.rest told x.front h.huge
malformed_no_huge text at told (inr (inr (inl x))) h = none_huge text x.more h.more x.first h.first x.objects x.rest told x.front h.huge
malformed_no_huge text at told (inr (inr (inr x))) h = none_huge text x.more h.more x.first h.first x.objects x.rest told x.front h.huge

one_refused : (text : List ℕ) (a b : PushFault) → a ≢ Memory → b ≢ Memory → IsRefused text a → IsRefused text b → a ≡ b
one_refused text (Malformed a) (Malformed b) m n x y = ap Malformed (one_malformed text a b x.1 y.1)
one_refused text (Malformed a) (TooLarge b) m n x (inl y) = let short = x.0 in let long = y.0 in absurd (omega arith)
one_refused text (Malformed a) (TooLarge b) m n x (inr y) = absurd (malformed_no_huge text a b x.1 y.1)
one_refused text (TooLarge a) (Malformed b) m n (inl x) y = let short = y.0 in let long = x.0 in absurd (omega arith)
one_refused text (TooLarge a) (Malformed b) m n (inr x) y = absurd (malformed_no_huge text b a y.1 x.1)
one_refused text (TooLarge a) (TooLarge b) m n (inl x) (inl y) = ap TooLarge (x.1 ∙ sym y.1)
one_refused text (TooLarge a) (TooLarge b) m n (inl x) (inr y) = let short = y.0 in let long = x.0 in absurd (omega arith)
one_refused text (TooLarge a) (TooLarge b) m n (inr x) (inl y) = let short = x.0 in let long = y.0 in absurd (omega arith)
one_refused text (TooLarge a) (TooLarge b) m n (inr x) (inr y) = ap TooLarge (same_huge text x.1.more y.1.more x.1.first y.1.first a b x.1.huge y.1.huge)
one_refused text Memory b m n x y = absurd (m refl)
one_refused text (Malformed a) Memory m n x y = absurd (n refl)
one_refused text (TooLarge a) Memory m n x y = absurd (n refl)

-- ---- a push

module _ (push : Push) (text : List ℕ) (is : IsPushText push text) where
  stops : (es : List (List ℕ × Pair)) → Stops es (entry_line push.entry.id ++ 10 ∷ end_line)
  stops es e more own comes same =
      let letter : ◌≡◌ {A = ℕ} 101 111 = sym (entry_letter push.entry.id (10 ∷ end_line)) ∙ ap (λ (u : List ℕ). slice_index u 0) (same ∙ object_then e more)
      ∙ object_letter e.0 e.1.kind (decimal (length e.1.body)) (10 ∷ (e.1.body ++ 10 ∷ more)) in
      absurd (omega (arith, letter))

  no_huge : (told : ℕ) → HasHuge (entry_line push.entry.id ++ 10 ∷ end_line) told → ⊥
  no_huge told h =
      let letter : ◌≡◌ {A = ℕ} 101 111 = sym (entry_letter push.entry.id (10 ∷ end_line)) ∙ ap (λ (u : List ℕ). slice_index u 0) h.whole
      ∙ object_letter h.id h.kind h.digits (10 ∷ h.more) in
      absurd (omega (arith, letter))

  front_of : IsObjects (flat_map own_record push.objects ++ (entry_line push.entry.id ++ 10 ∷ end_line)) push.objects (entry_line push.entry.id
      ++ 10 ∷ end_line)
  front_of = record {
    es = is.is.spelled.es;
    front = record {
      own = is.is.spelled.own;
      front = ap (λ (t : List ℕ). t ++ (entry_line push.entry.id ++ 10 ∷ end_line)) (records_of is.is.spelled.es push.objects is.is.spelled.own);
    };
    ends = record { no_object = stops is.is.spelled.es; no_huge = no_huge };
  }

  has_of : HasEntry push.objects (entry_line push.entry.id ++ 10 ∷ end_line) push.entry end_line
  has_of = record { id = is.is.spelled.id; whole = refl; entry_is = is.is.spelled.entry }

  not_malformed : (at : ℕ) → IsMalformedAt text at → ⊥
  not_malformed at (inl x) = x.no_header _ is.text_is
  not_malformed at (inr (inl x)) =
      x.no_entry push.entry end_line
      (moved x.objects push.objects x.rest _ push.entry end_line
      (same_rest text x.more _ x.first is.text_is x.objects push.objects x.rest _ x.front front_of) has_of)
  not_malformed at (inr (inr (inl x))) =
      let has = moved x.objects push.objects x.rest _ push.entry end_line
      (same_rest text x.more _ x.first is.text_is x.objects push.objects x.rest _ x.front front_of) has_of in
      x.no_end [] (same_after x.objects x.rest x.entry push.entry x.after end_line x.has has)
  not_malformed at (inr (inr (inr x))) =
      let has = moved x.objects push.objects x.rest _ push.entry end_line
      (same_rest text x.more _ x.first is.text_is x.objects push.objects x.rest _ x.front front_of) has_of in
      x.some (same_front end_line x.tail [] (same_after x.objects x.rest x.entry push.entry (end_line ++ x.tail) end_line x.has has))

  not_refused : (a : PushFault) → a ≢ Memory → IsRefused text a → ⊥
  not_refused (Malformed at) m x = not_malformed at x.1
  not_refused (TooLarge told) m (inl x) =
      let short = subst (λ (t : List ℕ). length t ≤ largest_push) (sym is.text_is) is.is.short in
      let long = x.0 in
      absurd (omega arith)
  not_refused (TooLarge told) m (inr x) = none_huge text _ x.1.more is.text_is x.1.first push.objects _ told front_of x.1.huge
  not_refused Memory m x = m refl

pub one_refusal : OneRefusal
one_refusal = record { one = one_refused; apart = λ push text a m is. not_refused push text is a m }
