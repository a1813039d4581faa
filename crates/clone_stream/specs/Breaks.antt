-- What breaks a stream at the record that begins at a place: each thing that may be wrong, told with its place.
use Rattle.std.specs.Prelude.{◌≡◌, ◌≢◌, ◌+◌, ◌++◌, ◌∷◌, ◌⊎◌, [], ℕ, List, length, codes, decimal}
use Rattle.buffered_reader.specs.Lines.{IsLine, IsLong}
use Rattle.git_object.specs.Repository.{largest_body}
use Rattle.git_object.specs.declared.kinds.Kind.{Kind}
use Rattle.clone_stream.specs.Streams.{object_line}
use Rattle.clone_stream.specs.Words.{IsHugeLine, IsOtherLine}
use Rattle.clone_stream.specs.Wrongs.{ComesObject, HasBadEnd, HasHead, HasLateObject, HasLateRef, HasMoreThanEnd}
use Rattle.clone_stream.specs.Wrongs.{HasOtherId, HasRef, HasWrongLine, IsPartOf, Last}
use Rattle.clone_stream.specs.declared.stream_faults.Break.{Break}
use Rattle.clone_stream.specs.declared.stream_faults.Break.TheVariants.{BadLine, IdDiffers, Order, TooLarge, Cut}
use Rattle.clone_stream.specs.declared.stream_faults.Break.TheVariants.{Failed, Memory}

-- the source failed after so many bytes: what was read till then is a part
pub record FailsIn (IsPart : List ℕ → Type 0) (at : ℕ) (rest : List ℕ) (p : ℕ) : Type 0 where
  pub part : List ℕ
  pub more : List ℕ
  pub whole : rest ≡ part ++ more
  pub is : IsPart part
  pub place : p ≡ at + length part

-- what breaks in the line that begins at this place; memory is wanting at a reference's alone
abbrev pub BreaksLine : ℕ → List ℕ → Break → Type 0
BreaksLine at rest (BadLine p) = (p ≡ at) × (IsLong rest ⊎ HasWrongLine IsOtherLine rest)
BreaksLine at rest (IdDiffers id found) = ⊥
BreaksLine at rest (Order p) = ⊥
BreaksLine at rest (TooLarge limit) = (limit ≡ largest_body) × HasWrongLine IsHugeLine rest
BreaksLine at rest (Cut p) = (p ≡ at + length rest) × IsLine rest
BreaksLine at rest (Failed p) = FailsIn IsLine at rest p
BreaksLine at rest Memory = HasRef rest

-- what breaks after the line of an object, where its body begins at this place
abbrev pub BreaksBody : List ℕ → Kind → ℕ → ℕ → List ℕ → Break → Type 0
BreaksBody id kind size at rest (BadLine p) = (p ≡ at + size) × HasBadEnd size rest
BreaksBody id kind size at rest (IdDiffers i found) = (i ≡ id) × HasOtherId id kind size rest found
BreaksBody id kind size at rest (Order p) = ⊥
BreaksBody id kind size at rest (TooLarge limit) = ⊥
BreaksBody id kind size at rest (Cut p) = (p ≡ at + length rest) × IsPartOf size rest
BreaksBody id kind size at rest (Failed p) = FailsIn (IsPartOf size) at rest p
BreaksBody id kind size at rest Memory = Unit {0}

-- what breaks in the order of a record
abbrev pub BreaksOrder : Last → ℕ → List ℕ → Break → Type 0
BreaksOrder last at rest (BadLine p) = ⊥
BreaksOrder last at rest (IdDiffers id found) = ⊥
BreaksOrder last at rest (Order p) = (p ≡ at) × (HasLateObject last rest ⊎ HasLateRef last rest)
BreaksOrder last at rest (TooLarge limit) = ⊥
BreaksOrder last at rest (Cut p) = ⊥
BreaksOrder last at rest (Failed p) = ⊥
BreaksOrder last at rest Memory = ⊥

-- what breaks after the line of an object that may come
pub record BreaksObject (last : Last) (at : ℕ) (rest : List ℕ) (fault : Break) : Type 0 where
  pub id : List ℕ
  pub kind : Kind
  pub size : ℕ
  pub more : List ℕ
  pub head : HasHead rest id kind size more
  pub comes : ComesObject last id
  pub breaks : BreaksBody id kind size (at + (length (object_line id kind (decimal size)) + 1)) more fault

-- what breaks at the record that begins at this place, after these
abbrev pub BreaksRecord : Last → ℕ → List ℕ → Break → Type 0
BreaksRecord last at rest fault = BreaksLine at rest fault
    ⊎ (BreaksOrder last at rest fault ⊎ BreaksObject last at rest fault)

-- what breaks after the last line, which begins at this place
abbrev pub BreaksEnd : ℕ → List ℕ → Break → Type 0
BreaksEnd at rest (BadLine p) = (p ≡ at + 4) × HasMoreThanEnd rest
BreaksEnd at rest (IdDiffers id found) = ⊥
BreaksEnd at rest (Order p) = ⊥
BreaksEnd at rest (TooLarge limit) = ⊥
BreaksEnd at rest (Cut p) = ⊥
BreaksEnd at rest (Failed p) = FailsIn (λ part. part ≡ codes "end" ++ 10 ∷ []) at rest p
BreaksEnd at rest Memory = ⊥

-- what breaks in the first line
abbrev pub BreaksHeader : List ℕ → Break → Type 0
BreaksHeader text (BadLine p) = (p ≡ 0) × (IsLong text ⊎ HasWrongLine (λ line. line ≢ codes "gittuf-stream 1") text)
BreaksHeader text (IdDiffers id found) = ⊥
BreaksHeader text (Order p) = ⊥
BreaksHeader text (TooLarge limit) = ⊥
BreaksHeader text (Cut p) = (p ≡ length text) × IsLine text
BreaksHeader text (Failed p) = FailsIn IsLine 0 text p
BreaksHeader text Memory = ⊥
