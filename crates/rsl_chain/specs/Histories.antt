-- The log of a repository with its entries.
use Rattle.std.specs.Prelude.{◌≡◌, ◌⊎◌, ◌++◌, ℕ, List, [], Some, map}
use Rattle.git_object.specs.Repository.{Repository}
use Rattle.rsl_chain.specs.declared.entries.Entry.{Entry}
use Rattle.rsl_chain.specs.Logs.{IsLogOf, entry_at}

-- these entries stand at these ids, one at each
abbrev pub AreEntriesAt : Repository → List (List ℕ) → List Entry → Type 0
AreEntriesAt r ids entries = map (entry_at r) ids ≡ map Some entries

-- these are the entries of the repository's log, oldest first
pub record IsHistory (r : Repository) (entries : List Entry) : Type 0 where
  pub ids : List (List ℕ)
  pub log : IsLogOf r ids
  pub are : AreEntriesAt r ids entries

-- no entry, or the first entries of the repository's log
abbrev pub BeginsHistory : Repository → List Entry → Type 0
BeginsHistory r first = (first ≡ []) ⊎ ((rest : List Entry) × IsHistory r (first ++ rest))
