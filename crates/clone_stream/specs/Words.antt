-- The lines of a stream after its first: an object's, a reference's, the last.
use Rattle.std.specs.Prelude.{◌≡◌, ◌≢◌, ◌<◌, ◌≤◌, ℕ, List, codes, decimal}
use Rattle.text_reader.specs.Number.{IsNumber, number_of}
use Rattle.git_object.specs.Ids.{IsId}
use Rattle.git_object.specs.Repository.{largest_body}
use Rattle.git_object.specs.declared.kinds.Kind.{Kind}
use Rattle.clone_stream.specs.Streams.{IsRef, object_line, ref_line}
use Rattle.clone_stream.specs.declared.line_words.ObjectLine.{ObjectLine}
use Rattle.clone_stream.specs.declared.line_words.Words.{Words}
use Rattle.clone_stream.specs.declared.line_words.Words.TheVariants.{Object, Ref, End}

-- an object's line, whatever its size
pub record IsObjectLine (line : List ℕ) : Type 0 where
  pub id : List ℕ
  pub kind : Kind
  pub digits : List ℕ
  pub is_id : IsId id
  pub is_number : IsNumber digits
  pub is : line ≡ object_line id kind digits

-- an object's line with a size past the limit
pub record IsHugeLine (line : List ℕ) : Type 0 where
  pub object : IsObjectLine line
  pub huge : largest_body < number_of object.digits

-- a reference's line
pub record IsRefLine (line : List ℕ) : Type 0 where
  pub name : List ℕ
  pub id : List ℕ
  pub is_ref : IsRef (name, id)
  pub is : line ≡ ref_line name id

-- none of the lines that may follow the first
pub record IsOtherLine (line : List ℕ) : Type 0 where
  pub no_object : IsObjectLine line → ⊥
  pub no_ref : IsRefLine line → ⊥
  pub no_end : line ≢ codes "end"

-- what a line says, as the line
abbrev pub words_line : Words → List ℕ
words_line (Object head) = object_line head.id head.kind (decimal head.size)
words_line (Ref value) = ref_line value.name value.id
words_line End = codes "end"

-- an id and a size within the limit, or a reference name and an id
pub record IsHead (head : ObjectLine) : Type 0 where
  pub id : IsId head.id
  pub small : head.size ≤ largest_body

abbrev pub AreWords : Words → Type 0
AreWords (Object head) = IsHead head
AreWords (Ref value) = IsRef (value.name, value.id)
AreWords End = Unit {0}
