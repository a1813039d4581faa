-- What an entry of a reference goes back to, and the ids of the objects that go with an entry.
use Rattle.std.specs.Prelude.{◌≡◌, ◌<◌, ◌⊎◌, ℕ, List, [], Some, None, true, slice_get}
use Rattle.git_object.specs.Ids.{zeros}
use Rattle.git_object.specs.Repository.{Repository}
use Rattle.rsl_chain.specs.Logs.{entry_at}
use Rattle.rsl_chain.specs.declared.entries.Entry.{Entry}
use Rattle.rsl_chain.specs.declared.entries.EntryBody.{EntryBody}
use Rattle.rsl_chain.specs.declared.entries.EntryBody.TheVariants.{Reference, Annotation}
use Rattle.rsl_chain.specs.declared.log_faults.LogFault.{LogFault}
use Rattle.rsl_chain.specs.declared.log_faults.LogFault.TheVariants.{Broken, Failed, Memory}
use Rattle.pushes.specs.Needing.{has}
use Rattle.pushes.specs.Reaching.{AreReached}

-- the entry at this place of these ids records the value of a reference
pub record RecordsAt (r : Repository) (name : List ℕ) (ids : List (List ℕ)) (n : ℕ) (target : List ℕ) : Type 0 where
  pub id : List ℕ
  pub entry : Entry
  pub there : slice_get ids n ≡ Some id
  pub read : entry_at r id ≡ Some entry
  pub records : entry.body ≡ Reference name target

-- the last of these entries that records the reference records this value
pub record IsLast (r : Repository) (name : List ℕ) (ids : List (List ℕ)) (target : List ℕ) : Type 0 where
  pub place : ℕ
  pub at : RecordsAt r name ids place target
  pub last : (n : ℕ) (other : List ℕ) → place < n → RecordsAt r name ids n other → ⊥

-- none of these entries records the reference, which then has no value
pub record IsFresh (r : Repository) (name : List ℕ) (ids : List (List ℕ)) (target : List ℕ) : Type 0 where
  pub none : (n : ℕ) (other : List ℕ) → RecordsAt r name ids n other → ⊥
  pub is : target ≡ zeros

-- after these entries the reference has this value
abbrev pub IsValueAfter : Repository → List ℕ → List (List ℕ) → List ℕ → Type 0
IsValueAfter r name ids target = IsLast r name ids target ⊎ IsFresh r name ids target

-- what is reached from the target of an entry of a reference, and not from the value that the reference had
pub record AreNew (r : Repository) (before : List (List ℕ)) (name target : List ℕ) (ids : List (List ℕ)) : Type 0 where
  pub was : List ℕ
  pub value : IsValueAfter r name before was
  pub reached : AreReached r was target ids

-- the ids of the objects that go with an entry's body after these entries, beside the entry's own
abbrev pub GoWith : Repository → List (List ℕ) → EntryBody → List (List ℕ) → Type 0
GoWith r before (Reference name target) ids = AreNew r before name target ids
GoWith r before (Annotation named skip message) ids = ids ≡ []

-- the ids of the objects that go with the entry of an id
pub record Go (r : Repository) (before : List (List ℕ)) (id : List ℕ) (ids : List (List ℕ)) : Type 0 where
  pub entry : Entry
  pub read : entry_at r id ≡ Some entry
  pub with_body : GoWith r before entry.body ids

-- ---- refusals

-- this is one of these ids, and no entry stands there
pub record HasNoEntry (r : Repository) (ids : List (List ℕ)) (named : List ℕ) : Type 0 where
  pub among : has ids named ≡ true
  pub none : entry_at r named ≡ None

abbrev pub IsBreakAmong : Repository → List (List ℕ) → LogFault → Type 0
IsBreakAmong r ids (Broken named) = HasNoEntry r ids named
IsBreakAmong r ids Failed = Unit {0}
IsBreakAmong r ids Memory = Unit {0}
