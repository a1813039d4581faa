-- The one list of the epochs of a log, of which each entry is judged in a repository of its own.
use Rattle.std.specs.Prelude.{◌-◌, ℕ, List, length, Option, Result, option_and_then}
use Rattle.std.specs.List.{slice_get}
use Rattle.rsl_chain.specs.Entries.{Taken}
use Rattle.policy_epochs.specs.Epochs.{AreEpochs}
use Rattle.policy_epochs.specs.Succession.{succession}
use Rattle.policy_epochs.specs.declared.faults.PolicyFault.{PolicyFault}
use Rattle.policy_epochs.specs.declared.policies.Policy.{Policy}
use Rattle.policy_reading.specs.InForce.{found_in}

-- what is found of the entry of a number, in the entry's own repository
abbrev pub found_each : List Taken → ℕ → Option (Result Policy PolicyFault)
found_each log k = option_and_then (λ t. found_in t.repository t.entry) (slice_get log (k - 1))

-- the rising numbers of those that take effect, each under the policy of the greatest below it
abbrev pub AreEpochsOf : Option (List (List ℕ)) → List Taken → List ℕ → Type 0
AreEpochsOf anchor log list = AreEpochs (found_each log) (succession anchor) (length log) list
