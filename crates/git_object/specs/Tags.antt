-- Git's tag object: the line of what it names, the line of that object's kind, and the rest, which is not looked into.
use Rattle.std.specs.Prelude.{◌≡◌, ◌≢◌, ◌⊎◌, ◌++◌, ℕ, List, length, codes}
use Rattle.git_object.specs.Ids.{IsId}
use Rattle.git_object.specs.HeaderLines.{id_line, type_line}
use Rattle.git_object.specs.declared.kinds.Kind.{Kind}
use Rattle.git_object.specs.declared.tags.Tag.{Tag}

abbrev pub object_line : List ℕ → List ℕ
object_line id = id_line (codes "object ") id

-- the body is that of the tag
pub record IsTagText (tag : Tag) (body : List ℕ) : Type 0 where
  pub object_is : IsId tag.object
  pub text : body ≡ object_line tag.object ++ (type_line tag.kind ++ tag.rest)

-- the body is that of a tag
pub record IsTag (body : List ℕ) : Type 0 where
  pub tag : Tag
  pub text : IsTagText tag body

-- the body does not begin with the line of an object
pub record HasNoObject (body : List ℕ) (at : ℕ) : Type 0 where
  pub place : at ≡ 0
  pub no_object : (id more : List ℕ) → IsId id → body ≢ object_line id ++ more

-- after the line of an object stands no line of a kind
pub record HasNoType (body : List ℕ) (at : ℕ) : Type 0 where
  pub object : List ℕ
  pub rest : List ℕ
  pub object_is : IsId object
  pub front : body ≡ object_line object ++ rest
  pub place : at ≡ length (object_line object)
  pub no_type : (kind : Kind) (more : List ℕ) → rest ≢ type_line kind ++ more

-- the first line that is not as wanted begins at this place
abbrev pub IsTagFault : List ℕ → ℕ → Type 0
IsTagFault body at = HasNoObject body at ⊎ HasNoType body at
