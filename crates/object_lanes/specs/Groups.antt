-- Objects without their ids, and what is hashed of each (Git's object names).
use Rattle.std.specs.Prelude.{◌++◌, ◌∷◌, [], ℕ, List, codes, decimal, length}
use Rattle.git_object.specs.Objects.{kind_name, object_id}
use Rattle.git_object.specs.declared.kinds.Kind.{Kind}
use Rattle.object_lanes.specs.declared.heads.Unnamed.{Unnamed}

-- the id of a kind and a body
abbrev pub unnamed_id : Unnamed → List ℕ
unnamed_id object = object_id object.kind object.body

-- what is hashed before the body: kind, space, the body's length in decimal, a zero byte
abbrev pub object_head : Kind → ℕ → List ℕ
object_head kind size = kind_name kind ++ codes " " ++ decimal size ++ 0 ∷ []

abbrev pub unnamed_head : Unnamed → List ℕ
unnamed_head object = object_head object.kind (length object.body)
