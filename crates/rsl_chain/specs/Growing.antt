-- A log that grows by an entry.
use Rattle.std.specs.Prelude.{◌≡◌, ◌++◌, ℕ, List, [], ◌∷◌, Some}
use Rattle.std.specs.FinMap.{get}
use Rattle.git_object.specs.Names.{log_name}
use Rattle.git_object.specs.Repository.{Repository}
use Rattle.git_object.specs.declared.kinds.Kind.{Kind}
use Rattle.keeper_api.specs.Growing.{Keeps, Larger}
use Rattle.rsl_chain.specs.declared.entries.Entry.{Entry}
use Rattle.rsl_chain.specs.declared.entries.EntryBody.TheVariants.{Reference}
use Rattle.rsl_chain.specs.Chain.{head_after}
use Rattle.rsl_chain.specs.Logs.{IsLogOf, entry_of_pair, heads_of}

-- what each of these ids leads to in the first repository it leads to in the second
abbrev pub KeepsEntries : List (List ℕ) → Repository → Repository → Type 0
KeepsEntries ids small large =
    (front : List (List ℕ)) (id : List ℕ) (rest : List (List ℕ)) → ids ≡ front ++ id ∷ rest
    → Keeps (heads_of small id) (heads_of large id)

-- the log's entries stay, one that counts them and goes back to the last of them stands at the id, and the log's
-- reference
-- is put there
pub record GainsEntry (ids : List (List ℕ)) (id : List ℕ) (small large : Repository) : Type 0 where
  pub keeps : KeepsEntries ids small large
  pub counts : heads_of large id ≡ Some (head_after ids)
  pub at : get large.refs log_name ≡ Some id

-- ---- what holds of them

-- the log is then the old one and the new entry
abbrev pub LogGrows : Type 0
LogGrows = (ids : List (List ℕ)) (id : List ℕ) (small large : Repository) → IsLogOf small ids
    → GainsEntry ids id small large → IsLogOf large (ids ++ id ∷ [])

-- a larger repository keeps every entry
abbrev pub LargerKeeps : Type 0
LargerKeeps = (ids : List (List ℕ)) (small large : Repository) → Larger small large → KeepsEntries ids small large

-- an entry that is read records no value of the log's own reference
abbrev pub NeverTheLog : Type 0
NeverTheLog =
    (id : List ℕ) (kind : Kind) (body : List ℕ) (entry : Entry) (name target : List ℕ)
    → entry_of_pair id kind body ≡ Some entry
    → entry.body ≡ Reference name target → name ≡ log_name → ⊥
