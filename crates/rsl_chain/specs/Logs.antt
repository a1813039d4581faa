-- The entries of a repository: what its ids lead to.
use Rattle.std.specs.Prelude.{◌≡◌, ℕ, Bool, true, false, List, Option, Some, None, Ok, Err}
use Rattle.std.specs.FinMap.{get}
use Rattle.std.specs.Option.{option_and_then}
use Rattle.std.specs.Result.{result_ok}
use Rattle.git_object.specs.Names.{log_name}
use Rattle.git_object.specs.Repository.{Repository, object_at}
use Rattle.git_object.specs.declared.kinds.Kind.{Kind}
use Rattle.git_object.specs.declared.kinds.Kind.TheVariants.{Blob, Tree, Commit, Tag}
use Rattle.keeper_api.specs.declared.keeper_faults.KeeperFault.{KeeperFault}
use Rattle.keeper_api.specs.declared.keeper_faults.KeeperFault.TheVariants as keeper_fault
use Rattle.rsl_chain.specs.declared.entries.Entry.{Entry}
use Rattle.rsl_chain.specs.Chain.{Entries, IsBreak, IsLog}
use Rattle.rsl_chain.specs.Reading.{Reading, entry_as, reading}
use Rattle.rsl_chain.specs.declared.heads.Head.{Head}
use Rattle.rsl_chain.specs.declared.log_faults.LogFault.{LogFault}
use Rattle.rsl_chain.specs.declared.log_faults.LogFault.TheVariants.{Broken, Failed, Memory}

-- the head of an entry that was read
abbrev pub head_from : Reading → Option Head
head_from (Ok read) = Some (record { number = read.0.number; parent = read.0.parent })
head_from (Err n) = None

unfoldable pub head_of : List ℕ → Option Head
head_of body = head_from (reading body)

-- a commit's body is read; no other object is an entry
abbrev pub head_of_pair : Kind → List ℕ → Option Head
head_of_pair Commit body = head_of body
head_of_pair Blob body = None
head_of_pair Tree body = None
head_of_pair Tag body = None

-- the head of the entry that an id leads to
abbrev pub heads_of : Repository → Entries
heads_of r id = option_and_then (λ pair. head_of_pair pair.kind pair.body) (object_at r id)

abbrev pub entry_of_pair : List ℕ → Kind → List ℕ → Option Entry
entry_of_pair id Commit body = result_ok (entry_as id (reading body))
entry_of_pair id Blob body = None
entry_of_pair id Tree body = None
entry_of_pair id Tag body = None

-- the entry that an id leads to
abbrev pub entry_at : Repository → List ℕ → Option Entry
entry_at r id = option_and_then (λ pair. entry_of_pair id pair.kind pair.body) (object_at r id)

-- the head of an entry
abbrev pub head_in : Entry → Head
head_in entry = record { number = entry.number; parent = entry.parent }

-- these ids are the repository's log
abbrev pub IsLogOf : Repository → List (List ℕ) → Type 0
IsLogOf r ids = IsLog (heads_of r) (get r.refs log_name) ids

-- the repository's log breaks at this id
abbrev pub IsBreakOf : Repository → List ℕ → Type 0
IsBreakOf r bad = IsBreak (heads_of r) (get r.refs log_name) bad

-- ---- refusals

abbrev pub IsBrokenAs : Repository → LogFault → Type 0
IsBrokenAs r (Broken id) = IsBreakOf r id
IsBrokenAs r Failed = Unit {0}
IsBrokenAs r Memory = Unit {0}

-- from this tip the log breaks at the id that is named
abbrev pub IsBrokenFrom : Repository → List ℕ → LogFault → Type 0
IsBrokenFrom r tip (Broken id) = IsBreak (heads_of r) (Some tip) id
IsBrokenFrom r tip Failed = Unit {0}
IsBrokenFrom r tip Memory = Unit {0}

-- where a break is answered, no entry stands at the id
abbrev pub IsNoEntryAs : Repository → List ℕ → LogFault → Type 0
IsNoEntryAs r id (Broken named) = entry_at r id ≡ None
IsNoEntryAs r id Failed = Unit {0}
IsNoEntryAs r id Memory = Unit {0}

-- a refusal of an id names it
abbrev pub IsNamed : List ℕ → LogFault → Type 0
IsNamed id (Broken named) = named ≡ id
IsNamed id Failed = Unit {0}
IsNamed id Memory = Unit {0}

-- no break is answered
abbrev pub IsUnbroken : LogFault → Type 0
IsUnbroken (Broken id) = ⊥
IsUnbroken Failed = Unit {0}
IsUnbroken Memory = Unit {0}

-- the fault that a keeper counts
abbrev pub log_failed : LogFault → Bool
log_failed (Broken id) = false
log_failed Failed = true
log_failed Memory = false

abbrev pub fault_of_keeper : KeeperFault → LogFault
fault_of_keeper keeper_fault.Failed = Failed
fault_of_keeper keeper_fault.Memory = Memory
