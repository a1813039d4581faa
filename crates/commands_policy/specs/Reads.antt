-- The reads of objects that the commands on the policy may cost.
use Rattle.std.specs.Prelude.{◌≤◌, ◌+◌, ℕ, List, length, sum_by}
use Rattle.git_object.specs.Repository.{Repository, value_of}
use Rattle.git_object.specs.References.{policy_name}
use Rattle.policy_reading.specs.Policies.{policy_reads}
use Rattle.rsl_chain.specs.Logs.{IsLogOf}
use Rattle.policy_reading.specs.Reading.{entry_reads}

-- of finding the repository's log, of taking its entries, and of the policy to be recorded
pub record ReadsPolicies (r : Repository) (before after : ℕ) : Type 0 where
  pub ids : List (List ℕ)
  pub log : IsLogOf r ids
  pub few : after ≤ before + (length ids + sum_by (entry_reads r) ids + policy_reads r (value_of r policy_name))
