-- A record that was read, after those before it.
use Rattle.std.specs.Prelude.{◌≡◌, ◌+◌, ◌++◌, ◌∷◌, [], ℕ, List, Option, length, map}
use Rattle.octets.specs.Content.{with_front}
use Rattle.git_object.specs.Objects.{Pair, pair_id}
use Rattle.git_object.specs.declared.kinds.Kind.{Kind}
use Rattle.keeper_api.specs.declared.changes.RefChange.{RefChange}
use Rattle.clone_stream.specs.Breaks.{BreaksBody}
use Rattle.clone_stream.specs.Wrongs.{ComesObject, Last}
use Rattle.clone_stream.specs.Reading.{ComesAfter, last_of}
use Rattle.clone_stream.specs.Streams.{IsOwn, IsRef, end_line, object_record, ref_record}
use Rattle.clone_stream.specs.declared.records.Record.{Record}
use Rattle.clone_stream.specs.declared.records.Record.TheVariants as record_
use Rattle.clone_stream.specs.declared.stream_faults.Break.{Break}
use Rattle.clone_stream.specs.declared.stream_faults.Break.TheVariants.{Order}

-- the last id and the last name of what was read
abbrev pub last_read : List Pair → List RefChange → Last
last_read objects refs = record {
  id = last_of (map pair_id objects);
  name = last_of (map (λ (c : RefChange). c.name) refs);
}

-- the text of a record
abbrev pub record_text : Record → List ℕ
record_text (record_.Object object) = object_record (pair_id object, object)
record_text (record_.Ref value) = ref_record (value.name, value.id)
record_text record_.End = end_line

-- an object that may come, and is within the limit
pub record IsNextObject (last : Last) (object : Pair) : Type 0 where
  pub own : IsOwn (pair_id object, object)
  pub comes : ComesObject last (pair_id object)

-- a reference that may come
pub record IsNextRef (last : Last) (name id : List ℕ) : Type 0 where
  pub is : IsRef (name, id)
  pub comes : ComesAfter last.name name

-- the record may come after these
abbrev pub IsNext : Last → Record → Type 0
IsNext last (record_.Object object) = IsNextObject last object
IsNext last (record_.Ref value) = IsNextRef last value.name value.id
IsNext last record_.End = Unit {0}

-- an object of this id may not come
pub record IsLate (last : Last) (at : ℕ) (id : List ℕ) (fault : Break) : Type 0 where
  pub is : fault ≡ Order at
  pub late : ComesObject last id → ⊥

-- an object of this id may come, and this breaks in its body
pub record IsBroken (last : Last) (id : List ℕ) (kind : Kind) (size at : ℕ) (rest : List ℕ) (fault : Break) : Type 0
  where
    pub comes : ComesObject last id
    pub breaks : BreaksBody id kind size at rest fault

-- the object of a head was read after these: its body and the line feed were taken
pub record IsObjectRead (last : Last) (id : List ℕ) (kind : Kind) (size : ℕ) (before after : Option (List ℕ))
    (was now : ℕ) (object : Pair) : Type 0 where
  pub comes : ComesObject last id
  pub own : pair_id object ≡ id
  pub kind_is : object.kind ≡ kind
  pub long : length object.body ≡ size
  pub read : before ≡ with_front (object.body ++ 10 ∷ []) after
  pub taken : now ≡ was + size + 1

abbrev pub IsObjectOf : Last → List ℕ → Kind → ℕ → Option (List ℕ) → Option (List ℕ) → ℕ → ℕ → Record → Type 0
IsObjectOf last id kind size before after was now (record_.Object object) =
    IsObjectRead last id kind size before after was now object
IsObjectOf last id kind size before after was now (record_.Ref value) = ⊥
IsObjectOf last id kind size before after was now record_.End = ⊥
