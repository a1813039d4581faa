-- The lines in front of a commit and a tag (Git's commit and tag objects).
use Rattle.std.specs.Prelude.{◌++◌, ◌∷◌, [], ℕ, List, codes}
use Rattle.hex.specs.Hex.{encode_lower}
use Rattle.git_object.specs.Objects.{kind_name}
use Rattle.git_object.specs.declared.kinds.Kind.{Kind}

-- a word with its space, an id in 64 lower-case hexadecimal digits, a line feed
unfoldable pub id_line : List ℕ → List ℕ → List ℕ
id_line word id = word ++ (encode_lower id ++ 10 ∷ [])

-- `type `, a kind's word, a line feed
abbrev pub type_line : Kind → List ℕ
type_line kind = codes "type " ++ (kind_name kind ++ 10 ∷ [])
