-- The stream of a repository: its one text.
use Rattle.std.specs.Prelude.{◌≡◌, ◌++◌, ◌∷◌, [], ℕ, List, length, codes, decimal}
use Rattle.std.specs.List.{AllByRecursion, flat_map}
use Rattle.std.specs.FinMap.{entries}
use Rattle.hex.specs.Hex.{encode_lower}
use Rattle.git_object.specs.Ids.{IsId}
use Rattle.git_object.specs.Names.{IsRefName}
use Rattle.git_object.specs.Objects.{Pair, kind_name}
use Rattle.git_object.specs.Repository.{Repository, IsObject}
use Rattle.git_object.specs.declared.kinds.Kind.{Kind}

-- the first line
abbrev pub header : List ℕ
header = codes "gittuf-stream 1\n"

-- the last line
abbrev pub end_line : List ℕ
end_line = codes "end\n"

-- the most bytes that a stream may have: 1 GiB
abbrev pub largest_stream : ℕ
largest_stream = 1073741824

-- the line of an object: its id, its kind and the digits of its body's size in bytes
unfoldable pub object_line : List ℕ → Kind → List ℕ → List ℕ
object_line id kind digits = codes "object " ++ (encode_lower id ++ 32 ∷ (kind_name kind ++ 32 ∷ digits))

-- the line of a reference: its name and its id
unfoldable pub ref_line : List ℕ → List ℕ → List ℕ
ref_line name id = codes "ref " ++ (name ++ 32 ∷ encode_lower id)

-- an object's record: its line, its body, a line feed
abbrev pub object_record : List ℕ × Pair → List ℕ
object_record e = object_line e.0 e.1.kind (decimal (length e.1.body)) ++ 10 ∷ (e.1.body ++ 10 ∷ [])

-- a reference's record: its line
abbrev pub ref_record : List ℕ × List ℕ → List ℕ
ref_record e = ref_line e.0 e.1 ++ 10 ∷ []

-- an id and the object that has it
pub record IsOwn (e : List ℕ × Pair) : Type 0 where
  pub id : IsId e.0
  pub is : IsObject e.0 e.1

-- a reference name and an id
pub record IsRef (e : List ℕ × List ℕ) : Type 0 where
  pub name : IsRefName e.0
  pub id : IsId e.1

-- header, objects by rising id, references by rising name, end
abbrev pub stream_text : Repository → List ℕ
stream_text r = header ++ (flat_map object_record (entries r.objects)
    ++ (flat_map ref_record (entries r.refs) ++ end_line))

-- the bytes are the text of the repository, which keeps each object under its own id
pub record IsStreamText (r : Repository) (bytes : List ℕ) : Type 0 where
  pub objects : AllByRecursion IsOwn (entries r.objects)
  pub refs : AllByRecursion IsRef (entries r.refs)
  pub text : bytes ≡ stream_text r

-- a stream's text has one repository, and begins no other stream's text
abbrev pub OneSpelling : Type 0
OneSpelling = (r s : Repository) (a more : List ℕ) → IsStreamText r a → IsStreamText s (a ++ more) → (more ≡ [])
    × (r ≡ s)
