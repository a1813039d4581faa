-- Whole streams, part by part.
use Rattle.std.proofs.Common.{◌≡◌, ◌≢◌, ℕ, ◌+◌, List, [], ◌∷◌, ◌++◌, Option, Some, None, inr, length, refl, sym, ap, subst, ◌∙◌, append_assoc, arith, length-append}
use Rattle.std.specs.Prelude.{codes, map, IfSome, Err}
use Rattle.std.specs.List.{AllByRecursion, flat_map}
use Rattle.std.specs.FinMap.{empty, entries}
use Rattle.octets.specs.Content.{with_front}
use Rattle.buffered_reader.specs.Ahead.{Reading}
use Rattle.edge_io.proofs.Taken.{with_fronts}
use Rattle.git_object.specs.Objects.{Pair}
use Rattle.git_object.specs.Repository.{empty_repository}
use Rattle.keeper_api.specs.Changes.{changed, with_objects, with_refs}
use Rattle.keeper_api.specs.declared.changes.Change.{Change}
use Rattle.clone_stream.specs.Breaks.{BreaksEnd}
use Rattle.clone_stream.specs.Changes.{set_ref}
use Rattle.clone_stream.specs.Fronts.{AreRead, AreRecords, FirstBreak, change_of, records_text}
use Rattle.clone_stream.specs.Parts.{AreParts, EndsAt, OverRuns}
use Rattle.clone_stream.specs.Streams.{IsOwn, IsRef, IsStreamText, end_line, header, object_record, ref_record}
use Rattle.clone_stream.specs.declared.stream_faults.Break.{Break}
use Rattle.clone_stream.specs.declared.stream_faults.Break.TheVariants.{BadLine, IdDiffers, Order, TooLarge, Cut, Failed, Memory}
use Rattle.clone_stream.proofs.Broken.{told}
use Rattle.clone_stream.specs.Stopping.{StopsAt}
use Rattle.clone_stream.proofs.Built.{objects_built, refs_built}
use Rattle.clone_stream.proofs.Placed.{stops_later}

-- records between the first and the last line are the stream of what they make of nothing
pub stream_built : (es : List (List ℕ × Pair)) (fs : List (List ℕ × List ℕ)) → AreRecords es fs → IsStreamText (changed (change_of es fs) empty_repository) (header ++ (records_text es fs ++ end_line))
stream_built es fs are =
    let objects : entries (with_objects (map (λ (e : List ℕ × Pair). e.1) es) empty) ≡ es = objects_built es are.own are.ids_rise in
    let refs : entries (with_refs (map set_ref fs) empty) ≡ fs = refs_built fs are.names_rise in
    record {
      objects = subst (AllByRecursion IsOwn) (sym objects) are.own;
      refs = subst (AllByRecursion IsRef) (sym refs) are.are_refs;
      text = ap (λ (t : List ℕ). header ++ t) (append_assoc (flat_map object_record es) (flat_map ref_record fs) end_line ∙ (λ i. flat_map object_record (sym objects i) ++ (flat_map ref_record (sym refs i) ++ end_line)));
    }

pub with_none : (o : Option (List ℕ)) → with_front [] o ≡ o
with_none None = refl
with_none (Some x) = refl

module _ (change : Change) (o m n : Option (List ℕ)) (was at : ℕ) (e : o ≡ with_front header m) (start : was ≡ length header) (read : AreRead change m n was at) where
  whole : o ≡ with_front (header ++ (records_text read.objects read.refs ++ end_line)) n
  whole = e ∙ ap (with_front header) read.read ∙ with_fronts header (records_text read.objects read.refs ++ end_line) n

  count : at ≡ length (header ++ (records_text read.objects read.refs ++ end_line))
  count =
      let long = length-append header (records_text read.objects read.refs ++ end_line) in
      let taken = read.taken in
      omega arith

  -- nothing follows: a whole stream was read
  pub parts_found : (was_at now : Reading) (p : Option (List ℕ)) → was_at.taken ≡ at → EndsAt was_at now n p → AreParts change now o p
  parts_found was_at now p place end = record {
    bytes = header ++ (records_text read.objects read.refs ++ end_line);
    text = subst (λ (c : Change). IsStreamText (changed c empty_repository) (header ++ (records_text read.objects read.refs ++ end_line))) (sym read.makes) (stream_built read.objects read.refs read.are);
    read = whole ∙ ap (with_front (header ++ (records_text read.objects read.refs ++ end_line))) (end.same ∙ with_none p);
    none = end.none;
    taken = end.taken ∙ place ∙ count;
    drained = end.drained;
  }

  -- something follows, or the source failed
  pub end_breaks : (fault : Break) → OverRuns at n fault → IfSome o (λ text. FirstBreak text fault)
  end_breaks fault over =
      told (λ text. FirstBreak text fault) o n (header ++ (records_text read.objects read.refs ++ end_line)) whole (λ more there.
      inr (record {
        rest = (records_text read.objects read.refs ++ end_line) ++ more;
        front = append_assoc header (records_text read.objects read.refs ++ end_line) more;
        breaks = inr (record {
          objects = read.objects;
          refs = read.refs;
          rest = end_line ++ more;
          are = read.are;
          front = append_assoc (records_text read.objects read.refs) end_line more;
          breaks = at_end more fault there over;
        });
      }))
    where
      placed : at ≡ (length header + length (records_text read.objects read.refs)) + 4
      placed =
          let long = length-append header (records_text read.objects read.refs ++ end_line) in
          let longer = length-append (records_text read.objects read.refs) end_line in
          let four : length end_line ≡ 4 = refl in
          let here = count in
          omega arith

      at_end : (more : List ℕ) (f : Break) → n ≡ Some more → OverRuns at n f → BreaksEnd (length header + length (records_text read.objects read.refs)) (end_line ++ more) f
      at_end more (BadLine p) there over = (over.0 ∙ placed, record { more = more; whole = refl; some = subst (λ (q : Option (List ℕ)). IfSome q (λ rest. rest ≢ [])) there over.1 })
      at_end more (IdDiffers id found) there over = over
      at_end more (Order p) there over = over
      at_end more (TooLarge limit) there over = over
      at_end more (Cut p) there over = over
      at_end more (Failed p) there over = record { part = codes "end" ++ 10 ∷ []; more = more; whole = refl; is = refl; place = over ∙ placed }
      at_end more Memory there over = absurd over

  pub end_stops : (first mid now : Reading) (p : Option (List ℕ)) (fault : Break) → first.taken ≡ 0 → mid.taken ≡ at → StopsAt mid now n p fault → StopsAt first now o p fault
  end_stops first mid now p fault from place stops =
      let here = count in
      stops_later {T = ℕ} (Err fault) first mid now o n p (header ++ (records_text read.objects read.refs ++ end_line)) whole (omega arith) stops
