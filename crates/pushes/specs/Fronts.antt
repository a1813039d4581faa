-- The objects that stand in front of a text, one after the other, and where they stop.
use Rattle.std.specs.Prelude.{◌≡◌, ◌≢◌, ◌<◌, ◌-◌, ◌^◌, ◌++◌, ◌∷◌, ℕ, List, Option, map, min}
use Rattle.std.specs.List.{flat_map}
use Rattle.text_reader.specs.Number.{IsNumber, number_of}
use Rattle.buffered_reader.specs.Lines.{IsLine}
use Rattle.git_object.specs.Ids.{IsId}
use Rattle.git_object.specs.Objects.{Pair}
use Rattle.git_object.specs.Repository.{largest_body}
use Rattle.git_object.specs.declared.kinds.Kind.{Kind}
use Rattle.clone_stream.specs.Reading.{ComesAfter, last_of}
use Rattle.clone_stream.specs.Streams.{IsOwn, object_line, object_record}
use Rattle.pushes.specs.Pushes.{AreOwn}
use Rattle.pushes.specs.declared.push_faults.PushFault.{PushFault}
use Rattle.pushes.specs.declared.push_faults.PushFault.TheVariants.{Malformed, TooLarge, Memory}

-- this stands at the end of the whole text
abbrev pub IsEndOf : List ℕ → List ℕ → Type 0
IsEndOf whole rest = (front : List ℕ) × (whole ≡ front ++ rest)

-- the line of an object whose size passes the limit stands in front, and this is told of the size
pub record HasHuge (rest : List ℕ) (told : ℕ) : Type 0 where
  pub id : List ℕ
  pub kind : Kind
  pub digits : List ℕ
  pub more : List ℕ
  pub whole : rest ≡ object_line id kind digits ++ 10 ∷ more
  pub is_line : IsLine (object_line id kind digits)
  pub is_id : IsId id
  pub is_number : IsNumber digits
  pub huge : largest_body < number_of digits
  pub told_is : told ≡ min (number_of digits) (2 ^ 64 - 1)

-- no object that may come after this id stands in front, nor the line of one that is too large
pub record EndsObjects (last : Option (List ℕ)) (rest : List ℕ) : Type 0 where
  pub no_object : (e : List ℕ × Pair) (more : List ℕ) → IsOwn e → ComesAfter last e.0 → rest ≢ object_record e ++ more
  pub no_huge : (told : ℕ) → HasHuge rest told → ⊥

-- the ids
abbrev pub keys : List (List ℕ × Pair) → List (List ℕ)
keys es = map (λ (e : List ℕ × Pair). e.0) es

-- these objects stand in front
pub record IsFront (text : List ℕ) (es : List (List ℕ × Pair)) (objects : List Pair) (rest : List ℕ) : Type 0 where
  pub own : AreOwn es objects
  pub front : text ≡ flat_map object_record es ++ rest

-- they stand in front, and no more of them
pub record IsObjects (text : List ℕ) (objects : List Pair) (rest : List ℕ) : Type 0 where
  pub es : List (List ℕ × Pair)
  pub front : IsFront text es objects rest
  pub ends : EndsObjects (last_of (keys es)) rest

-- the refusals of a size
abbrev pub IsTooLarge : List ℕ → PushFault → Type 0
IsTooLarge digits (Malformed at) = ⊥
IsTooLarge digits (TooLarge told) = IsNumber digits × (largest_body < number_of digits)
    × (told ≡ min (number_of digits) (2 ^ 64 - 1))
IsTooLarge digits Memory = ⊥

abbrev pub StopsHuge : List ℕ → PushFault → Type 0
StopsHuge rest (Malformed at) = ⊥
StopsHuge rest (TooLarge told) = HasHuge rest told
StopsHuge rest Memory = Unit {0}

-- after objects that stand in front, one is too large
pub record HasHugeNext (text : List ℕ) (told : ℕ) : Type 0 where
  pub es : List (List ℕ × Pair)
  pub objects : List Pair
  pub rest : List ℕ
  pub front : IsFront text es objects rest
  pub huge : HasHuge rest told

abbrev pub StopsObjects : List ℕ → PushFault → Type 0
StopsObjects text (Malformed at) = ⊥
StopsObjects text (TooLarge told) = HasHugeNext text told
StopsObjects text Memory = Unit {0}
