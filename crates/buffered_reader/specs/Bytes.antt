-- A byte or none as a list.
use Rattle.std.specs.Prelude.{◌∷◌, [], ℕ, List, Option, Some, None}

abbrev pub bytes_of : Option ℕ → List ℕ
bytes_of None = []
bytes_of (Some byte) = byte ∷ []
