-- What may be wrong with the record that stands in front of a text, whoever tells it and at whatever place: its line,
-- its size, its order, the end of its body, its id, or that it is cut.
use Rattle.std.specs.Prelude.{◌≡◌, ◌≢◌, ◌≤◌, ◌++◌, ◌∷◌, [], ℕ, List, length, codes, decimal, Option, None}
use Rattle.buffered_reader.specs.Lines.{IsLine}
use Rattle.git_object.specs.Ids.{IsId}
use Rattle.git_object.specs.Objects.{object_id}
use Rattle.git_object.specs.Repository.{largest_body}
use Rattle.git_object.specs.declared.kinds.Kind.{Kind}
use Rattle.clone_stream.specs.Reading.{ComesAfter}
use Rattle.clone_stream.specs.Streams.{IsRef, object_line, ref_line}

-- a whole line stands in front of which this is wrong
pub record HasWrongLine (Wrong : List ℕ → Type 0) (rest : List ℕ) : Type 0 where
  pub line : List ℕ
  pub more : List ℕ
  pub whole : rest ≡ line ++ 10 ∷ more
  pub is_line : IsLine line
  pub wrong : Wrong line

-- the line of a reference stands in front
pub record HasRef (rest : List ℕ) : Type 0 where
  pub name : List ℕ
  pub id : List ℕ
  pub more : List ℕ
  pub whole : rest ≡ ref_line name id ++ 10 ∷ more
  pub is_ref : IsRef (name, id)

-- the last id and the last name, where there is one
pub record Last : Type 0 where
  pub id : Option (List ℕ)
  pub name : Option (List ℕ)

-- an object may come after these: no reference came, and its id is greater than the last
pub record ComesObject (last : Last) (id : List ℕ) : Type 0 where
  pub no_refs : last.name ≡ None
  pub comes : ComesAfter last.id id

-- the line of an object with a size within the limit stands in front
pub record HasHead (rest id : List ℕ) (kind : Kind) (size : ℕ) (more : List ℕ) : Type 0 where
  pub whole : rest ≡ object_line id kind (decimal size) ++ 10 ∷ more
  pub is_id : IsId id
  pub small : size ≤ largest_body

-- an object that may not come after these
pub record HasLateObject (last : Last) (rest : List ℕ) : Type 0 where
  pub id : List ℕ
  pub kind : Kind
  pub size : ℕ
  pub more : List ℕ
  pub head : HasHead rest id kind size more
  pub late : ComesObject last id → ⊥

-- a reference whose name does not come after the last
pub record HasLateRef (last : Last) (rest : List ℕ) : Type 0 where
  pub name : List ℕ
  pub id : List ℕ
  pub more : List ℕ
  pub whole : rest ≡ ref_line name id ++ 10 ∷ more
  pub is_ref : IsRef (name, id)
  pub late : ComesAfter last.name name → ⊥

-- after a body of so many bytes stands another byte than a line feed
pub record HasBadEnd (size : ℕ) (rest : List ℕ) : Type 0 where
  pub body : List ℕ
  pub byte : ℕ
  pub more : List ℕ
  pub whole : rest ≡ body ++ byte ∷ more
  pub long : length body ≡ size
  pub other : byte ≢ 10

-- a body of so many bytes has this other id
pub record HasOtherId (id : List ℕ) (kind : Kind) (size : ℕ) (rest found : List ℕ) : Type 0 where
  pub body : List ℕ
  pub more : List ℕ
  pub whole : rest ≡ body ++ 10 ∷ more
  pub long : length body ≡ size
  pub is : found ≡ object_id kind body
  pub other : found ≢ id

-- no more bytes than a body has: the line feed is not there
abbrev pub IsPartOf : ℕ → List ℕ → Type 0
IsPartOf size part = length part ≤ size

-- bytes stand after the last line
pub record HasMoreThanEnd (rest : List ℕ) : Type 0 where
  pub more : List ℕ
  pub whole : rest ≡ codes "end" ++ 10 ∷ more
  pub some : more ≢ []
