-- The change that puts a stream's records into an empty repository.
use Rattle.std.specs.Prelude.{ℕ, List, Some}
use Rattle.keeper_api.specs.declared.changes.RefChange.{RefChange}

-- a reference set to its id
abbrev pub set_ref : List ℕ × List ℕ → RefChange
set_ref e = record { name = e.0; to = Some e.1 }
