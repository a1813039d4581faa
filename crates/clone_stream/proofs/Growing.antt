-- Records that are read one after the other.
use Rattle.std.proofs.Common.{◌≡◌, ℕ, ◌+◌, List, [], ◌∷◌, ◌++◌, Option, Some, None, inl, inr, length, refl, sym, ap, subst, ◌∙◌, append_assoc, arith, length-append}
use Rattle.std.specs.Prelude.{decimal, map, IfSome, Err}
use Rattle.std.specs.List.{AllByRecursion, flat_map}
use Rattle.std.proofs.lemmas.List.{append-nil}
use Rattle.octets.specs.Content.{with_front}
use Rattle.buffered_reader.specs.Ahead.{Reading}
use Rattle.edge_io.proofs.Taken.{with_fronts}
use Rattle.git_object.specs.Objects.{Pair, pair_id}
use Rattle.git_object.proofs.Runs.{all_push, flat_push}
use Rattle.keeper_api.specs.declared.changes.RefChange.{RefChange}
use Rattle.clone_stream.specs.Breaks.{BreaksRecord}
use Rattle.clone_stream.specs.Wrongs.{Last}
use Rattle.clone_stream.specs.Changes.{set_ref}
use Rattle.clone_stream.specs.Fronts.{AreRead, BreaksRecords, ReadSoFar, last_record, records_text}
use Rattle.clone_stream.specs.Reading.{ComesAfter, last_of}
use Rattle.clone_stream.specs.Records.{IsNextObject, IsNextRef, last_read}
use Rattle.clone_stream.specs.Stopping.{StopsAt}
use Rattle.clone_stream.specs.Streams.{IsOwn, IsRef, end_line, object_line, object_record, ref_line, ref_record}
use Rattle.clone_stream.specs.declared.stream_faults.Break.{Break}
use Rattle.clone_stream.specs.declared.stream_faults.Break.TheVariants.{Memory}
use Rattle.clone_stream.proofs.Broken.{told}
use Rattle.clone_stream.proofs.Lasts.{none_last, sorted_push}
use Rattle.clone_stream.proofs.Placed.{stops_later}

-- the ids of own objects are their keys
pub ids_are_keys : (es : List (List ℕ × Pair)) → AllByRecursion IsOwn es → map pair_id (map (λ (e : List ℕ × Pair). e.1) es) ≡ map (λ (e : List ℕ × Pair). e.0) es
ids_are_keys [] own = refl
ids_are_keys (e ∷ es) own = λ i. own.0.is.own i ∷ ids_are_keys es own.1 i

-- the names of references that are set are their keys
pub names_are_keys : (fs : List (List ℕ × List ℕ)) → map (λ (d : RefChange). d.name) (map set_ref fs) ≡ map (λ (e : List ℕ × List ℕ). e.0) fs
names_are_keys [] = refl
names_are_keys (e ∷ fs) = ap (λ (rest : List (List ℕ)). e.0 ∷ rest) (names_are_keys fs)

map_push : {A B : Type 0} (f : A → B) (xs : List A) (x : A) → map f (xs ++ x ∷ []) ≡ map f xs ++ f x ∷ []
map_push f [] x = refl
map_push f (y ∷ xs) x = ap (λ rest. f y ∷ rest) (map_push f xs x)

no_items : {A : Type 0} (xs : List A) → length xs ≡ 0 → xs ≡ []
no_items [] e = refl
no_items (x ∷ xs) e = absurd (omega arith)

length-map-names : (fs : List (List ℕ × List ℕ)) → length (map set_ref fs) ≡ length fs
length-map-names [] = refl
length-map-names (f ∷ fs) = let rest = length-map-names fs in omega arith

-- nothing was read yet
pub at_first : (o : Option (List ℕ)) (n : ℕ) → ReadSoFar [] [] o o n n
at_first None n = record { entries = []; names = []; are = record { own = tt; ids_rise = refl; are_refs = tt; names_rise = refl }; objects_are = refl; refs_are = refl; read = refl; taken = omega arith }
at_first (Some x) n = record { entries = []; names = []; are = record { own = tt; ids_rise = refl; are_refs = tt; names_rise = refl }; objects_are = refl; refs_are = refl; read = refl; taken = omega arith }

pub grown_object : (es : List (List ℕ × Pair)) (e : List ℕ × Pair) (fs : List (List ℕ × List ℕ)) → fs ≡ [] → records_text (es ++ e ∷ []) fs ≡ records_text es fs ++ object_record e
grown_object es e fs none =
    ap (records_text (es ++ e ∷ [])) none ∙ append-nil (flat_map object_record (es ++ e ∷ [])) ∙ flat_push object_record es e
    ∙ ap (λ (a : List ℕ). a ++ object_record e) (sym (append-nil (flat_map object_record es))) ∙ ap (λ (f : List (List ℕ × List ℕ)). records_text es f ++ object_record e) (sym none)

pub grown_ref : (es : List (List ℕ × Pair)) (fs : List (List ℕ × List ℕ)) (f : List ℕ × List ℕ) → records_text es (fs ++ f ∷ []) ≡ records_text es fs ++ ref_record f
grown_ref es fs f =
    ap (λ (t : List ℕ). flat_map object_record es ++ t) (flat_push ref_record fs f) ∙ sym (append_assoc (flat_map object_record es) (flat_map ref_record fs) (ref_record f))

module _ (objects : List Pair) (refs : List RefChange) (o m : Option (List ℕ)) (was at : ℕ) (so_far : ReadSoFar objects refs o m was at) where
  -- the last of what was read
  lasts : last_read objects refs ≡ last_record so_far.entries so_far.names
  lasts =
      let ids : map pair_id objects ≡ map (λ (e : List ℕ × Pair). e.0) so_far.entries = ap (map pair_id) so_far.objects_are ∙ ids_are_keys so_far.entries so_far.are.own in
      let names : map (λ (d : RefChange). d.name) refs ≡ map (λ (e : List ℕ × List ℕ). e.0) so_far.names =
      ap (map (λ (d : RefChange). d.name)) so_far.refs_are ∙ names_are_keys so_far.names in
      λ i. record { id = last_of (ids i); name = last_of (names i) }

  no_names : last_of (map (λ (d : RefChange). d.name) refs) ≡ None → so_far.names ≡ []
  no_names none =
      let few = none_last (λ (d : RefChange). d.name) refs none in
      let same : length refs ≡ length so_far.names = ap length so_far.refs_are ∙ length-map-names so_far.names in
      no_items so_far.names (omega arith)

  -- one object more
  pub object_read : (x : Pair) (n : Option (List ℕ)) (now : ℕ) → IsNextObject (last_read objects refs) x → m ≡ with_front (object_record (pair_id x, x)) n → now ≡ at + length (object_record (pair_id x, x))
      → ReadSoFar (objects ++ x ∷ []) refs o n was now
  object_read x n now next e count =
      let entry : List ℕ × Pair = (pair_id x, x) in
      let text = grown_object so_far.entries entry so_far.names (no_names next.comes.no_refs) in
      let comes : ComesAfter (last_of (map (λ (d : List ℕ × Pair). d.0) so_far.entries)) (pair_id x) = subst (λ (l : Last). ComesAfter l.id (pair_id x)) lasts next.comes.comes in
      let so = so_far.taken in
      record {
        entries = so_far.entries ++ entry ∷ [];
        names = so_far.names;
        are = record {
          own = all_push IsOwn so_far.entries entry so_far.are.own next.own;
          ids_rise = sorted_push so_far.entries (pair_id x) x so_far.are.ids_rise comes;
          are_refs = so_far.are.are_refs;
          names_rise = so_far.are.names_rise;
        };
        objects_are = ap (λ (xs : List Pair). xs ++ x ∷ []) so_far.objects_are ∙ sym (map_push (λ (d : List ℕ × Pair). d.1) so_far.entries entry);
        refs_are = so_far.refs_are;
        read = so_far.read ∙ ap (with_front (records_text so_far.entries so_far.names)) e ∙ with_fronts (records_text so_far.entries so_far.names) (object_record entry) n ∙ ap (λ (t : List ℕ). with_front t n) (sym text);
        taken = let long = length-append (records_text so_far.entries so_far.names) (object_record entry) in let same = ap length text in omega arith;
      }

  -- one reference more
  pub ref_read : (name id : List ℕ) (n : Option (List ℕ)) (now : ℕ) → IsNextRef (last_read objects refs) name id → m ≡ with_front (ref_record (name, id)) n → now ≡ at + length (ref_record (name, id))
      → ReadSoFar objects (refs ++ set_ref (name, id) ∷ []) o n was now
  ref_read name id n now next e count =
      let entry : List ℕ × List ℕ = (name, id) in
      let text = grown_ref so_far.entries so_far.names entry in
      let comes : ComesAfter (last_of (map (λ (d : List ℕ × List ℕ). d.0) so_far.names)) name = subst (λ (l : Last). ComesAfter l.name name) lasts next.comes in
      let so = so_far.taken in
      record {
        entries = so_far.entries;
        names = so_far.names ++ entry ∷ [];
        are = record {
          own = so_far.are.own;
          ids_rise = so_far.are.ids_rise;
          are_refs = all_push IsRef so_far.names entry so_far.are.are_refs next.is;
          names_rise = sorted_push so_far.names name id so_far.are.names_rise comes;
        };
        objects_are = so_far.objects_are;
        refs_are = ap (λ (xs : List RefChange). xs ++ set_ref entry ∷ []) so_far.refs_are ∙ sym (map_push set_ref so_far.names entry);
        read = so_far.read ∙ ap (with_front (records_text so_far.entries so_far.names)) e ∙ with_fronts (records_text so_far.entries so_far.names) (ref_record entry) n ∙ ap (λ (t : List ℕ). with_front t n) (sym text);
        taken = let long = length-append (records_text so_far.entries so_far.names) (ref_record entry) in let same = ap length text in omega arith;
      }

  -- the last line
  pub all_read : (n : Option (List ℕ)) (now : ℕ) → m ≡ with_front end_line n → now ≡ at + length end_line → AreRead (record { objects = objects; refs = refs }) o n was now
  all_read n now e count =
      let text = records_text so_far.entries so_far.names in
      let so = so_far.taken in
      record {
        objects = so_far.entries;
        refs = so_far.names;
        are = so_far.are;
        makes = λ i. record { objects = so_far.objects_are i; refs = so_far.refs_are i };
        read = so_far.read ∙ ap (with_front text) e ∙ with_fronts text end_line n;
        taken = let long = length-append text end_line in omega arith;
      }

  -- the next record breaks
  pub next_breaks : (fault : Break) → IfSome m (λ rest. BreaksRecord (last_read objects refs) at rest fault) → IfSome o (λ rest. BreaksRecords was rest fault)
  next_breaks fault bad = told (λ rest. BreaksRecords was rest fault) o m (records_text so_far.entries so_far.names) so_far.read (λ more there.
      let here : BreaksRecord (last_read objects refs) at more fault = subst (λ (p : Option (List ℕ)). IfSome p (λ rest. BreaksRecord (last_read objects refs) at rest fault)) there bad in
      record {
        objects = so_far.entries;
        refs = so_far.names;
        rest = more;
        are = so_far.are;
        front = refl;
        breaks = subst (λ (l : Last). BreaksRecord l (was + length (records_text so_far.entries so_far.names)) more fault) lasts (subst (λ (k : ℕ). BreaksRecord (last_read objects refs) k more fault) so_far.taken here);
      })

  -- the object that stands next takes memory
  pub object_lacks : (x : Pair) (n : Option (List ℕ)) → IsNextObject (last_read objects refs) x → m ≡ with_front (object_record (pair_id x, x)) n → IfSome o (λ rest. BreaksRecords was rest Memory)
  object_lacks x n next e =
      let line = object_line (pair_id x) x.kind (decimal (length x.body)) in
      next_breaks Memory (told (λ rest. BreaksRecord (last_read objects refs) at rest Memory) m n (object_record (pair_id x, x)) e (λ more _. inr (inr (record {
        id = pair_id x;
        kind = x.kind;
        size = length x.body;
        more = (x.body ++ 10 ∷ []) ++ more;
        head = record { whole = append_assoc line (10 ∷ (x.body ++ 10 ∷ [])) more; is_id = next.own.id; small = next.own.is.small };
        comes = next.comes;
        breaks = tt;
      }))))

  -- the reference that stands next takes memory
  pub ref_lacks : (name id : List ℕ) (n : Option (List ℕ)) → IsNextRef (last_read objects refs) name id → m ≡ with_front (ref_record (name, id)) n → IfSome o (λ rest. BreaksRecords was rest Memory)
  ref_lacks name id n next e =
      next_breaks Memory (told (λ rest. BreaksRecord (last_read objects refs) at rest Memory) m n (ref_record (name, id)) e
      (λ more _. inl (record { name = name; id = id; more = more; whole = append_assoc (ref_line name id) (10 ∷ []) more; is_ref = next.is })))

  pub stops_after : (mid now : Reading) (first : Reading) (n : Option (List ℕ)) (fault : Break) → first.taken ≡ was → mid.taken ≡ at → StopsAt mid now m n fault → StopsAt first now o n fault
  stops_after mid now first n fault from place stops =
      let so = so_far.taken in
      stops_later {T = ℕ} (Err fault) first mid now o m n (records_text so_far.entries so_far.names) so_far.read (omega arith) stops
