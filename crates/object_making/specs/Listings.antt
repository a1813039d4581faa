-- What a listing says of its paths, and which of them stand below a place.
use Rattle.std.specs.Prelude.{◌∷◌, [], ℕ, List}
use Rattle.text_reader.specs.Line.{Begins}
use Rattle.git_object.specs.declared.modes.Mode.{Mode}
use Rattle.git_object.specs.declared.trees.TreeEntry.{TreeEntry}
use Rattle.tree_paths.specs.States.{PathValue}
use Rattle.object_making.specs.declared.listed.Listed.{Listed}

-- the paths of a listing with their modes and ids, in its order
abbrev pub values : List Listed → List (List ℕ × PathValue)
values [] = []
values (listed ∷ listing) = (listed.path, (listed.mode, listed.id)) ∷ values listing

-- its first path begins with the place
abbrev pub StartsAt : List ℕ → List Listed → Type 0
StartsAt place [] = ⊥
StartsAt place (listed ∷ listing) = Begins place listed.path

-- its first path, if there is one, does not begin with the place
abbrev pub StopsAt : List ℕ → List Listed → Type 0
StopsAt place [] = Unit {0}
StopsAt place (listed ∷ listing) = Begins place listed.path → ⊥

abbrev pub entry_of : Mode → List ℕ → List ℕ → TreeEntry
entry_of mode name id = record { mode = mode; name = name; id = id }
