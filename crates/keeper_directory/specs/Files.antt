-- The texts of the files of a kept folder, and their names.
use Rattle.std.specs.Prelude.{◌≢◌, ◌≤◌, ◌++◌, ◌∷◌, [], ℕ, List, length, decimal}
use Rattle.hex.specs.Hex.{encode_lower}
use Rattle.git_object.specs.Ids.{IsId}
use Rattle.git_object.specs.Objects.{kind_name, object_text}
use Rattle.git_object.specs.Repository.{largest_body}
use Rattle.git_object.specs.declared.kinds.Kind.{Kind}

-- what stands before the body in an object's file (Git's object format): kind, space, the body's length, a zero byte
abbrev pub object_head : Kind → ℕ → List ℕ
object_head kind size = kind_name kind ++ 32 ∷ (decimal size ++ 0 ∷ [])

-- the whole of a reference's file: the id and a line feed
abbrev pub ref_text : List ℕ → List ℕ
ref_text id = encode_lower id ++ 10 ∷ []

-- no object's file has this text, where a body has at most 16 MiB
abbrev pub IsNoObject : List ℕ → Type 0
IsNoObject text = (kind : Kind) (body : List ℕ) → length body ≤ largest_body → text ≢ object_text kind body

-- no reference's file has this text
abbrev pub IsNoRef : List ℕ → Type 0
IsNoRef text = (id : List ℕ) → IsId id → text ≢ ref_text id
