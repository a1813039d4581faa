-- The text of a journal, by which a change that was stopped is mended.
use Rattle.std.specs.Prelude.{◌≡◌, ◌++◌, ◌∷◌, [], ℕ, List, Option, Some, None, IfSome, codes}
use Rattle.std.specs.List.{AllByRecursion, flat_map}
use Rattle.hex.specs.Hex.{encode_lower}
use Rattle.git_object.specs.Ids.{IsId}
use Rattle.git_object.specs.Names.{IsRefName}
use Rattle.keeper_api.specs.declared.changes.RefChange.{RefChange}

-- the line of an object that the change keeps
abbrev pub object_line : List ℕ → List ℕ
object_line id = codes "object " ++ (encode_lower id ++ 10 ∷ [])

-- what stands before the name of a reference: that it is set, and to which id, or that it goes
abbrev pub ref_word : Option (List ℕ) → List ℕ
ref_word (Some id) = codes "set " ++ (encode_lower id ++ 32 ∷ [])
ref_word None = codes "drop "

-- the line of a reference
abbrev pub ref_line : RefChange → List ℕ
ref_line change = ref_word change.to ++ (change.name ++ 10 ∷ [])

-- the journal of a change of these objects and references: its last line says that nothing is missing
abbrev pub journal_text : List (List ℕ) → List RefChange → List ℕ
journal_text objects refs =
    codes "gittuf-change 1\n" ++ (flat_map object_line objects ++ (flat_map ref_line refs ++ codes "whole\n"))

-- it has a reference's name, and an id where it is set
abbrev pub IsNamed : RefChange → Type 0
IsNamed change = IsRefName change.name × IfSome change.to IsId

-- a text that begins with a journal begins with no other one: so a journal is read as what was written, and none is
-- the front of a longer one
abbrev pub OneJournal : Type 0
OneJournal = (a b : List (List ℕ)) (r s : List RefChange) (x y : List ℕ)
    → AllByRecursion IsId a → AllByRecursion IsId b → AllByRecursion IsNamed r → AllByRecursion IsNamed s
    → journal_text a r ++ x ≡ journal_text b s ++ y → (a ≡ b) × (r ≡ s) × (x ≡ y)
