-- Each text is the text of a repository, or something breaks in it first.
use Rattle.std.proofs.Common.{◌≡◌, ℕ, zero, suc, ◌+◌, ◌<◌, ◌≤◌, List, [], ◌∷◌, ◌++◌, length, refl, sym, ap, subst, ◌∙◌, append_assoc, arith, length-append, inl, inr}
use Rattle.std.specs.Prelude.{codes, decimal, ◌⊎◌}
use Rattle.std.proofs.lemmas.List.{append-nil, nil_from_length}
use Rattle.git_object.specs.Objects.{Pair}
use Rattle.git_object.specs.Repository.{Repository, empty_repository}
use Rattle.git_object.proofs.Runs.{all_push}
use Rattle.keeper_api.specs.Changes.{changed}
use Rattle.clone_stream.specs.Wrongs.{ComesObject}
use Rattle.clone_stream.specs.Fronts.{AreRecords, BreaksAfterEnd, BreaksRecords, FirstBreak, change_of, last_record, records_text}
use Rattle.clone_stream.specs.Reading.{ComesAfter}
use Rattle.clone_stream.specs.Streams.{IsOwn, IsRef, IsStreamText, end_line, header, object_line, object_record, ref_line, ref_record}
use Rattle.clone_stream.specs.declared.stream_faults.Break.{Break}
use Rattle.clone_stream.specs.declared.stream_faults.Break.TheVariants.{BadLine, Cut}
use Rattle.git_object.proofs.Decisions.{is_text}
use Rattle.clone_stream.proofs.Growing.{grown_object, grown_ref}
use Rattle.clone_stream.proofs.Lasts.{none_last, sorted_push}
use Rattle.clone_stream.proofs.OneBreak.{IsOfText}
use Rattle.clone_stream.proofs.OneFront.{IsPlace, Place, cut, line, long}
use Rattle.clone_stream.proofs.SomeStep.{Step, ends, fails, object, reference, some_place, some_step}
use Rattle.clone_stream.proofs.Wholes.{stream_built}

-- ---- one record more

push_object : (es : List (List ℕ × Pair)) (fs : List (List ℕ × List ℕ)) (e : List ℕ × Pair) → AreRecords es fs → IsOwn e → ComesObject (last_record es fs) e.0 → AreRecords (es ++ e ∷ []) fs
push_object es fs e are own comes = record { own = all_push IsOwn es e are.own own; ids_rise = sorted_push es e.0 e.1 are.ids_rise comes.comes; are_refs = are.are_refs; names_rise = are.names_rise }

push_ref : (es : List (List ℕ × Pair)) (fs : List (List ℕ × List ℕ)) (f : List ℕ × List ℕ) → AreRecords es fs → IsRef f → ComesAfter (last_record es fs).name f.0 → AreRecords es (fs ++ f ∷ [])
push_ref es fs f are is comes = record { own = are.own; ids_rise = are.ids_rise; are_refs = all_push IsRef fs f are.are_refs is; names_rise = sorted_push fs f.0 f.1 are.names_rise comes }

-- ---- after the header

-- something breaks in a text that begins at the end of the header
record Breaks (text : List ℕ) : Type 0 where
  fault : Break
  of_text : IsOfText fault
  breaks : BreaksRecords (length header) text fault ⊎ BreaksAfterEnd (length header) text fault

-- the text is records and the last line
record Ends (text : List ℕ) : Type 0 where
  es : List (List ℕ × Pair)
  fs : List (List ℕ × List ℕ)
  are : AreRecords es fs
  whole : text ≡ records_text es fs ++ end_line

at_end : (text : List ℕ) (es : List (List ℕ × Pair)) (fs : List (List ℕ × List ℕ)) (rest more : List ℕ) → AreRecords es fs → text ≡ records_text es fs ++ rest → rest ≡ end_line ++ more → Breaks text ⊎ Ends text
at_end text es fs rest [] are front e = inr (record { es = es; fs = fs; are = are; whole = front ∙ ap (λ (t : List ℕ). records_text es fs ++ t) (e ∙ append-nil end_line) })
at_end text es fs rest (c ∷ more) are front e = inl (record {
  fault = BadLine ((length header + length (records_text es fs)) + 4);
  of_text = tt;
  breaks = inr (record { objects = es; refs = fs; rest = rest; are = are; front = front; breaks = (refl, record { more = c ∷ more; whole = e; some = λ nothing. cc nothing }) });
})

-- what follows a record is shorter
shorter_object : (e : List ℕ × Pair) (more rest : List ℕ) → rest ≡ object_record e ++ more → length more < length rest
shorter_object e more rest same =
    let line = object_line e.0 e.1.kind (decimal (length e.1.body)) in
    let a = ap length same ∙ length-append (object_record e) more in
    let b = length-append line (10 ∷ (e.1.body ++ 10 ∷ [])) in
    omega arith

shorter_ref : (f : List ℕ × List ℕ) (more rest : List ℕ) → rest ≡ ref_record f ++ more → length more < length rest
shorter_ref f more rest same =
    let a = ap length same ∙ length-append (ref_record f) more in
    let b = length-append (ref_line f.0 f.1) (10 ∷ []) in
    omega arith

module _ (text : List ℕ) where
  -- one step, and then what is told of all that is shorter
  by_step : (es : List (List ℕ × Pair)) (fs : List (List ℕ × List ℕ)) (rest : List ℕ) → AreRecords es fs → text ≡ records_text es fs ++ rest
      → ((ds : List (List ℕ × Pair)) (gs : List (List ℕ × List ℕ)) (more : List ℕ) → length more < length rest → AreRecords ds gs → text ≡ records_text ds gs ++ more → Breaks text ⊎ Ends text)
      → Step (last_record es fs) (length header + length (records_text es fs)) rest → Breaks text ⊎ Ends text
  by_step es fs rest are front again (fails fault of b) = inl (record { fault = fault; of_text = of; breaks = inl (record { objects = es; refs = fs; rest = rest; are = are; front = front; breaks = b }) })
  by_step es fs rest are front again (ends more e) = at_end text es fs rest more are front e
  by_step es fs rest are front again (object e more own comes same) =
      let none : fs ≡ [] = nil_from_length fs (none_last (λ (f : List ℕ × List ℕ). f.0) fs comes.no_refs) in
      again (es ++ e ∷ []) fs more (shorter_object e more rest same) (push_object es fs e are own comes)
      (front ∙ ap (λ (t : List ℕ). records_text es fs ++ t) same ∙ sym (append_assoc (records_text es fs) (object_record e) more) ∙ ap (λ (t : List ℕ). t ++ more) (sym (grown_object es e fs none)))
  by_step es fs rest are front again (reference f more is comes same) =
      again es (fs ++ f ∷ []) more (shorter_ref f more rest same) (push_ref es fs f are is comes)
      (front ∙ ap (λ (t : List ℕ). records_text es fs ++ t) same ∙ sym (append_assoc (records_text es fs) (ref_record f) more) ∙ ap (λ (t : List ℕ). t ++ more) (sym (grown_ref es fs f)))

  -- by the length of the rest
  by_length : (n : ℕ) (es : List (List ℕ × Pair)) (fs : List (List ℕ × List ℕ)) (rest : List ℕ) → length rest ≤ n → AreRecords es fs → text ≡ records_text es fs ++ rest → Breaks text ⊎ Ends text
  by_length zero es fs rest few are front =
      by_step es fs rest are front (λ ds gs more less a f. absurd (omega arith)) (some_step (last_record es fs) (length header + length (records_text es fs)) rest)
  by_length (suc n) es fs rest few are front =
      by_step es fs rest are front (λ ds gs more less a f. by_length n ds gs more (omega arith) a f) (some_step (last_record es fs) (length header + length (records_text es fs)) rest)

-- ---- whole texts

pub record BreaksFirst (text : List ℕ) : Type 0 where
  pub fault : Break
  pub of_text : IsOfText fault
  pub first : FirstBreak text fault

pub record IsStream (text : List ℕ) : Type 0 where
  pub repository : Repository
  pub is : IsStreamText repository text

after_header : (text rest : List ℕ) → text ≡ header ++ rest → BreaksFirst text ⊎ IsStream text
after_header text rest e = elim (by_length rest (length rest) [] [] rest (omega arith) (record { own = tt; ids_rise = refl; are_refs = tt; names_rise = refl }) refl) [
  | inl b ↦ inl (record { fault = b.fault; of_text = b.of_text; first = inr (record { rest = rest; front = e; breaks = b.breaks }) })
  | inr s ↦ inr (record {
    repository = changed (change_of s.es s.fs) empty_repository;
    is = subst (IsStreamText (changed (change_of s.es s.fs) empty_repository)) (sym (e ∙ ap (λ (t : List ℕ). header ++ t) s.whole)) (stream_built s.es s.fs s.are);
  })
]

at_place : (text : List ℕ) (p : Place) → IsPlace text p → BreaksFirst text ⊎ IsStream text
at_place text long is = inl (record { fault = BadLine 0; of_text = tt; first = inl (refl, inl is) })
at_place text cut is = inl (record { fault = Cut (length text); of_text = tt; first = inl (refl, is) })
at_place text (line l more) is = elim (is_text l (codes "gittuf-stream 1")) [
  | inl header_is ↦ after_header text more (is.0 ∙ ap (λ (t : List ℕ). t ++ 10 ∷ more) header_is)
  | inr other ↦ inl (record { fault = BadLine 0; of_text = tt; first = inl (refl, inr (record { line = l; more = more; whole = is.0; is_line = is.1; wrong = other })) })
]

pub some_first : (text : List ℕ) → BreaksFirst text ⊎ IsStream text
some_first text = let p = some_place text in at_place text p.place p.is
