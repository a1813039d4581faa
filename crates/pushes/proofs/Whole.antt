-- A whole push: its parts put together, and that a text has one push.
use Rattle.std.proofs.Common.{◌≡◌, ℕ, ◌≤◌, List, [], ◌∷◌, ◌++◌, Some, length, map, refl, sym, ap, subst, ◌∙◌, append_assoc, arith}
use Rattle.std.specs.Prelude.{decimal, slice_index}
use Rattle.std.specs.List.{flat_map}
use Rattle.std.proofs.lemmas.List.{append-nil}
use Rattle.text_reader.proofs.Unique.{same_front}
use Rattle.git_object.specs.Objects.{Pair}
use Rattle.rsl_chain.specs.declared.entries.Entry.{Entry}
use Rattle.clone_stream.specs.Fronts.{last_record, records_text}
use Rattle.clone_stream.specs.Streams.{object_record}
use Rattle.clone_stream.specs.Wrongs.{Last}
use Rattle.clone_stream.proofs.Lines.{object_then, ref_then}
use Rattle.clone_stream.proofs.OneReading.{IsStop, one_reading}
use Rattle.clone_stream.proofs.RecordLines.{object_letter, ref_letter}
use Rattle.pushes.specs.Pushes.{AreOwn, IsPushText, entry_in, entry_line, end_line, header, largest_push, own_record, push_text}
use Rattle.pushes.specs.Fronts.{IsObjects}
use Rattle.pushes.specs.Refusals.{HasEntry}
use Rattle.pushes.specs.Laws.{OnePush}
use Rattle.pushes.specs.declared.pushed.Push.{Push}
use Rattle.pushes.proofs.EntryLines.{after_feed, one_entry_line}
use Rattle.pushes.proofs.Fronts.{own_records}

nothing : (tail : List ℕ) → length tail ≡ 0 → tail ≡ []
nothing [] e = refl
nothing (b ∷ tail) e = absurd (omega arith)

-- the records of objects under their own ids
pub records_of : (es : List (List ℕ × Pair)) (objects : List Pair) → AreOwn es objects → flat_map own_record objects ≡ flat_map object_record es
records_of es objects own = ap (flat_map own_record) own.objects_are ∙ own_records es own.are.own

pub push_found : (body text : List ℕ) (objects : List Pair) (rest : List ℕ) (entry : Entry) (after tail : List ℕ) → length body ≤ largest_push
    → body ≡ header ++ text → IsObjects text objects rest
    → HasEntry objects rest entry after → after ≡ end_line ++ tail → length tail ≡ 0 → IsPushText (record { entry = entry; objects = objects }) body
push_found body text objects rest entry after tail short first front has last none =
    let ended : after ≡ end_line = last ∙ ap (λ (t : List ℕ). end_line ++ t) (nothing tail none) ∙ append-nil end_line in
    let behind : rest ≡ entry_line entry.id ++ 10 ∷ end_line = has.whole ∙ ap (λ (t : List ℕ). entry_line entry.id ++ 10 ∷ t) ended in
    let all : text ≡ flat_map own_record objects ++ (entry_line entry.id ++ 10 ∷ end_line) =
    front.front.front ∙ ap (λ (t : List ℕ). t ++ rest) (sym (records_of front.es objects front.front.own))
    ∙ ap (λ (t : List ℕ). flat_map own_record objects ++ t) behind in
    let whole : body ≡ push_text objects entry.id = first ∙ ap (λ (t : List ℕ). header ++ t) all in
    record {
      is = record {
        spelled = record { es = front.es; own = front.front.own; entry = has.entry_is; id = has.id };
        short = subst (λ (t : List ℕ). length t ≤ largest_push) whole short;
      };
      text_is = whole;
    }

pub entry_letter : (id more : List ℕ) → slice_index (entry_line id ++ more) 0 ≡ 101
unfolding entry_line
entry_letter id more = refl

-- the line of an entry is no record
entry_stop : (last : Last) (id more : List ℕ) → IsStop last (entry_line id ++ more)
entry_stop last id more = record {
  no_object = λ e tail own comes same.
      let letter : 101 ≡ 111 = sym (entry_letter id more) ∙ ap (λ (u : List ℕ). slice_index u 0) (same ∙ object_then e tail)
      ∙ object_letter e.0 e.1.kind (decimal (length e.1.body)) (10 ∷ (e.1.body ++ 10 ∷ tail)) in
      absurd (omega arith);
  no_ref = λ f tail is comes same.
      let letter : 101 ≡ 114 = sym (entry_letter id more) ∙ ap (λ (u : List ℕ). slice_index u 0) (same ∙ ref_then f tail) ∙ ref_letter f.0 f.1 (10 ∷ tail) in
      absurd (omega arith);
}

-- behind the first line, where more follows the push
before_more : (a b c d more : List ℕ) → (a ++ (b ++ (c ++ 10 ∷ d))) ++ more ≡ a ++ (b ++ (c ++ 10 ∷ (d ++ more)))
before_more a b c d more =
    append_assoc a (b ++ (c ++ 10 ∷ d)) more ∙ ap (λ (t : List ℕ). a ++ t)
    (append_assoc b (c ++ 10 ∷ d) more ∙ ap (λ (t : List ℕ). b ++ t) (append_assoc c (10 ∷ d) more))

after_header : (p : Push) (text more : List ℕ) (is : IsPushText p text)
    → text ++ more ≡ header ++ (records_text is.is.spelled.es [] ++ (entry_line p.entry.id ++ 10 ∷ (end_line ++ more)))
after_header p text more is =
    let es = is.is.spelled.es in
    ap (λ (t : List ℕ). t ++ more) is.text_is ∙ before_more header (flat_map own_record p.objects) (entry_line p.entry.id) end_line more
    ∙ ap (λ (t : List ℕ). header ++ (t ++ (entry_line p.entry.id ++ 10 ∷ (end_line ++ more)))) (records_of es p.objects is.is.spelled.own
    ∙ sym (append-nil (flat_map object_record es)))

same_entry : (a b : Entry) → Some a ≡ Some b → a ≡ b
same_entry a b e = cc

pub one_push : OnePush
one_push p q text more ip iq =
    let sp = ip.is.spelled in
    let sq = iq.is.spelled in
    let x : List ℕ = entry_line p.entry.id ++ 10 ∷ (end_line ++ more) in
    let y : List ℕ = entry_line q.entry.id ++ 10 ∷ (end_line ++ []) in
    let whole : text ++ more ≡ header ++ (records_text sq.es [] ++ y) = sym (append-nil (text ++ more)) ∙ after_header q (text ++ more) [] iq in
    let both = same_front header (records_text sp.es [] ++ x) (records_text sq.es [] ++ y) (sym (after_header p text more ip) ∙ whole) in
    let one = one_reading sp.es sq.es [] [] x y sp.own.are sq.own.are (entry_stop (last_record sp.es []) p.entry.id (10 ∷ (end_line ++ more)))
    (entry_stop (last_record sq.es []) q.entry.id (10 ∷ (end_line ++ []))) both in
    let objects : p.objects ≡ q.objects = sp.own.objects_are ∙ ap (map (λ (e : List ℕ × Pair). e.1)) one.objects ∙ sym sq.own.objects_are in
    let ids = one_entry_line p.entry.id q.entry.id (10 ∷ (end_line ++ more)) (10 ∷ (end_line ++ [])) sp.id sq.id one.after in
    let there : Some p.entry ≡ Some q.entry = sym sp.entry ∙ ap (λ (os : List Pair). entry_in os p.entry.id) objects ∙ ap (entry_in q.objects) ids.0
    ∙ sq.entry in
    let entry = same_entry p.entry q.entry there in
    (same_front end_line more [] (after_feed (end_line ++ more) (end_line ++ []) ids.1), λ i. record { entry = entry i; objects = objects i })
