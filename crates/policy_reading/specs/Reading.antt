-- The reads of objects that taking the entries of a log may cost.
use Rattle.std.specs.Prelude.{◌≤◌, ◌+◌, ℕ, List, length, sum_by, Option, Some, None, if◌then◌else◌}
use Rattle.git_object.specs.Repository.{Repository}
use Rattle.rsl_chain.specs.Entries.{is_of, target_of}
use Rattle.git_object.specs.References.{policy_name}
use Rattle.rsl_chain.specs.declared.entries.Entry.{Entry}
use Rattle.policy_reading.specs.Policies.{policy_reads}
use Rattle.rsl_chain.specs.Logs.{IsLogOf, entry_at}

-- of taking what was read: those of the policy of an entry's target, where it is for the policy
abbrev pub taking_reads : Repository → Option Entry → ℕ
taking_reads r None = 0
taking_reads r (Some entry) = (if is_of entry.body policy_name then policy_reads r (target_of entry.body) else 0)

-- of reading what stands at an id, and taking it
abbrev pub entry_reads : Repository → List ℕ → ℕ
entry_reads r id = 1 + taking_reads r (entry_at r id)

-- of finding the repository's log, which reads each entry once, and of taking its entries
pub record ReadsLog (r : Repository) (before after : ℕ) : Type 0 where
  pub ids : List (List ℕ)
  pub log : IsLogOf r ids
  pub few : after ≤ before + (length ids + sum_by (entry_reads r) ids)
