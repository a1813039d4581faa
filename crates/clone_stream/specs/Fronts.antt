-- The longest front of a stream that is well formed, and what breaks after it.
use Rattle.std.specs.Prelude.{◌≡◌, ◌+◌, ◌++◌, ◌⊎◌, ℕ, true, List, Option, length, map}
use Rattle.std.specs.List.{AllByRecursion, flat_map}
use Rattle.std.specs.FinMap.Entries.{is_sorted}
use Rattle.octets.specs.BytesMap.{by_bytes}
use Rattle.octets.specs.Content.{with_front}
use Rattle.git_object.specs.Objects.{Pair}
use Rattle.keeper_api.specs.declared.changes.Change.{Change}
use Rattle.keeper_api.specs.declared.changes.RefChange.{RefChange}
use Rattle.clone_stream.specs.Breaks.{BreaksEnd, BreaksHeader, BreaksRecord}
use Rattle.clone_stream.specs.Wrongs.{Last}
use Rattle.clone_stream.specs.Changes.{set_ref}
use Rattle.clone_stream.specs.Reading.{last_of}
use Rattle.clone_stream.specs.Streams.{IsOwn, IsRef, end_line, header, object_record, ref_record}
use Rattle.clone_stream.specs.declared.stream_faults.Break.{Break}

-- object records, and then reference records
abbrev pub records_text : List (List ℕ × Pair) → List (List ℕ × List ℕ) → List ℕ
records_text objects refs = flat_map object_record objects ++ flat_map ref_record refs

-- objects under their own ids, by rising ids, and references by rising names
pub record AreRecords (objects : List (List ℕ × Pair)) (refs : List (List ℕ × List ℕ)) : Type 0 where
  pub own : AllByRecursion IsOwn objects
  pub ids_rise : is_sorted by_bytes objects ≡ true
  pub are_refs : AllByRecursion IsRef refs
  pub names_rise : is_sorted by_bytes refs ≡ true

-- the last id and the last name
abbrev pub last_record : List (List ℕ × Pair) → List (List ℕ × List ℕ) → Last
last_record objects refs = record {
  id = last_of (map (λ (e : List ℕ × Pair). e.0) objects);
  name = last_of (map (λ (e : List ℕ × List ℕ). e.0) refs);
}

-- after records that begin at this place, this breaks at the next
pub record BreaksRecords (start : ℕ) (text : List ℕ) (fault : Break) : Type 0 where
  pub objects : List (List ℕ × Pair)
  pub refs : List (List ℕ × List ℕ)
  pub rest : List ℕ
  pub are : AreRecords objects refs
  pub front : text ≡ records_text objects refs ++ rest
  pub breaks : BreaksRecord (last_record objects refs) (start + length (records_text objects refs)) rest fault

-- after records that begin at this place and the last line, this breaks
pub record BreaksAfterEnd (start : ℕ) (text : List ℕ) (fault : Break) : Type 0 where
  pub objects : List (List ℕ × Pair)
  pub refs : List (List ℕ × List ℕ)
  pub rest : List ℕ
  pub are : AreRecords objects refs
  pub front : text ≡ records_text objects refs ++ rest
  pub breaks : BreaksEnd (start + length (records_text objects refs)) rest fault

-- the change that records make in an empty repository
abbrev pub change_of : List (List ℕ × Pair) → List (List ℕ × List ℕ) → Change
change_of objects refs = record { objects = map (λ (e : List ℕ × Pair). e.1) objects; refs = map set_ref refs }

-- these records and the last line were taken
pub record AreRead (change : Change) (before after : Option (List ℕ)) (was now : ℕ) : Type 0 where
  pub objects : List (List ℕ × Pair)
  pub refs : List (List ℕ × List ℕ)
  pub are : AreRecords objects refs
  pub makes : change ≡ change_of objects refs
  pub read : before ≡ with_front (records_text objects refs ++ end_line) after
  pub taken : now ≡ was + length (records_text objects refs ++ end_line)

-- what breaks a stream: in its first line, at the record after its longest front, or after its last line
pub record BreaksAfterHeader (text : List ℕ) (fault : Break) : Type 0 where
  pub rest : List ℕ
  pub front : text ≡ header ++ rest
  pub breaks : BreaksRecords (length header) rest fault ⊎ BreaksAfterEnd (length header) rest fault

abbrev pub FirstBreak : List ℕ → Break → Type 0
FirstBreak text fault = BreaksHeader text fault ⊎ BreaksAfterHeader text fault

-- these objects and references were read so far, from what there was at first
pub record ReadSoFar (objects : List Pair) (refs : List RefChange) (before after : Option (List ℕ)) (was now : ℕ) : Type
    0 where
  pub entries : List (List ℕ × Pair)
  pub names : List (List ℕ × List ℕ)
  pub are : AreRecords entries names
  pub objects_are : objects ≡ map (λ (e : List ℕ × Pair). e.1) entries
  pub refs_are : refs ≡ map set_ref names
  pub read : before ≡ with_front (records_text entries names) after
  pub taken : now ≡ was + length (records_text entries names)
