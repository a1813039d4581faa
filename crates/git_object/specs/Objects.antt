-- Objects and their ids (Git's object format; gitformat and "Git Internals: Git Objects").
use Rattle.std.specs.Prelude.{ℕ, ◌∷◌, ◌++◌, [], List, length, codes, decimal}
use Rattle.sha2.specs.Sha256.{sha256}
use Rattle.git_object.specs.declared.kinds.Kind.{Kind}
use Rattle.git_object.specs.declared.kinds.Kind.TheVariants.{Blob, Tree, Commit, Tag}

-- Git's word for a kind
abbrev pub kind_name : Kind → List ℕ
kind_name Blob = codes "blob"
kind_name Tree = codes "tree"
kind_name Commit = codes "commit"
kind_name Tag = codes "tag"

-- what is kept at an id: a kind and a body
pub record Pair : Type 0 where
  pub kind : Kind
  pub body : List ℕ

-- the bytes that are hashed: kind, space, the body's length in decimal, a zero byte, body
abbrev pub object_text : Kind → List ℕ → List ℕ
object_text kind body = kind_name kind ++ codes " " ++ decimal (length body) ++ 0 ∷ [] ++ body

abbrev pub object_id : Kind → List ℕ → List ℕ
object_id kind body = sha256 (object_text kind body)

-- the id of a pair
abbrev pub pair_id : Pair → List ℕ
pair_id pair = object_id pair.kind pair.body
