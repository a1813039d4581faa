-- The policy in force after the entries of a log, each judged in one repository. Entries are numbered from 1.
use Rattle.std.specs.Prelude.{◌≡◌, ◌+◌, ◌-◌, ◌++◌, ℕ, List, ◌∷◌, length, Option, Some, None, Result, option_and_then}
use Rattle.std.specs.Prelude.{if◌then◌else◌}
use Rattle.std.specs.List.{slice_get}
use Rattle.git_object.specs.Repository.{Repository}
use Rattle.rsl_chain.specs.Entries.{is_of, target_of}
use Rattle.git_object.specs.References.{policy_name}
use Rattle.rsl_chain.specs.declared.entries.Entry.{Entry}
use Rattle.rsl_chain.specs.Logs.{entry_at}
use Rattle.rsl_chain.specs.declared.log_faults.LogFault.{LogFault}
use Rattle.rsl_chain.specs.declared.log_faults.LogFault.TheVariants.{Broken, Failed, Memory}
use Rattle.rsl_chain.specs.Histories.{AreEntriesAt, IsHistory}
use Rattle.policy_epochs.specs.Epochs.{fault_under, next_policy, policy_after}
use Rattle.policy_epochs.specs.Standing.{Found, Stands}
use Rattle.policy_epochs.specs.Succession.{succession}
use Rattle.policy_epochs.specs.declared.epochs.Epochs.{Epochs}
use Rattle.policy_epochs.specs.declared.faults.PolicyFault.{PolicyFault}
use Rattle.policy_epochs.specs.declared.policies.Policy.{Policy}
use Rattle.policy_reading.specs.Policies.{policy_of}

-- what is found of an entry: None where it is not for the policy, else the policy of its target, or its first fault
abbrev pub found_in : Repository → Entry → Option (Result Policy PolicyFault)
found_in r entry = (if is_of entry.body policy_name then Some (policy_of r (target_of entry.body)) else None)

-- of the entry of a number
abbrev pub found_of : Repository → List Entry → ℕ → Option (Result Policy PolicyFault)
found_of r entries k = option_and_then (λ entry. found_in r entry) (slice_get entries (k - 1))

-- the policy in force after these entries
abbrev pub in_force : Option (List (List ℕ)) → Repository → List Entry → Option Policy
in_force anchor r entries = policy_after (found_of r entries) (succession anchor) (length entries)

-- the same, entry by entry: what one more makes of the policy in force
abbrev pub next_in : Option (List (List ℕ)) → Repository → Option Policy → Entry → Option Policy
next_in anchor r current entry = next_policy (succession anchor) current (found_in r entry)

-- what keeps an entry for the policy, of this target, from being an epoch behind these entries
abbrev pub epoch_fault : Option (List (List ℕ)) → Repository → List Entry → List ℕ → Option PolicyFault
epoch_fault anchor r entries target = fault_under (succession anchor) (in_force anchor r entries) (policy_of r target)

-- the epochs stand for these entries
pub record StandsFor (r : Repository) (entries : List Entry) (epochs : Epochs) : Type 0 where
  pub is : Stands epochs (found_of r entries) (length entries)

-- the epochs afterwards stand for a log with the entry, whatever log they stood for before
pub record Takes (r : Repository) (entry : Entry) (before after : Epochs) : Type 0 where
  pub stands : (checked : Found) (n : ℕ) → checked (n + 1) ≡ found_in r entry → Stands before checked n
      → Stands after checked (n + 1)

-- the same with the entry at an id
pub record TakesAt (r : Repository) (id : List ℕ) (before after : Epochs) : Type 0 where
  pub entry : Entry
  pub read : entry_at r id ≡ Some entry
  pub takes : Takes r entry before after

-- an entry stands at each of these ids
pub record HasEntries (r : Repository) (ids : List (List ℕ)) : Type 0 where
  pub entries : List Entry
  pub are : AreEntriesAt r ids entries

-- the epochs stand for the entries at these ids, and one stands at each
pub record StandsAt (r : Repository) (ids : List (List ℕ)) (epochs : Epochs) : Type 0 where
  pub there : HasEntries r ids
  pub for : (entries : List Entry) → AreEntriesAt r ids entries → StandsFor r entries epochs

-- the epochs stand for the entries of the repository's log
pub record HasEpochs (r : Repository) (epochs : Epochs) : Type 0 where
  pub entries : List Entry
  pub history : IsHistory r entries
  pub stands : StandsFor r entries epochs

-- no entry stands at this one of the ids, and one stands at each before it
pub record IsFirstMissing (r : Repository) (ids : List (List ℕ)) (id : List ℕ) : Type 0 where
  pub front : List (List ℕ)
  pub rest : List (List ℕ)
  pub is : ids ≡ front ++ id ∷ rest
  pub there : HasEntries r front
  pub none : entry_at r id ≡ None

-- a break that is answered names the first of the ids at which no entry stands
abbrev pub MissesEntry : Repository → List (List ℕ) → LogFault → Type 0
MissesEntry r ids (Broken id) = IsFirstMissing r ids id
MissesEntry r ids Failed = Unit {0}
MissesEntry r ids Memory = Unit {0}
