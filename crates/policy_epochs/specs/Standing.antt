-- What a log has made of its policy entries, and what stands for it.
use Rattle.std.specs.Prelude.{◌≡◌, ◌<◌, ℕ, Option, Some, None, Result}
use Rattle.policy_epochs.specs.Epochs.{policy_after}
use Rattle.policy_epochs.specs.Succession.{succession}
use Rattle.policy_epochs.specs.declared.epochs.Epochs.{Epochs}
use Rattle.policy_epochs.specs.declared.faults.EpochVerdict.{EpochVerdict}
use Rattle.policy_epochs.specs.declared.faults.EpochVerdict.TheVariants.{Opened, Refused}
use Rattle.policy_epochs.specs.declared.faults.PolicyFault.{PolicyFault}
use Rattle.policy_epochs.specs.declared.policies.Policy.{Policy}

-- what was found of each entry of a log: None where it is not for the policy
abbrev pub Found : Type 0
Found = ℕ → Option (Result Policy PolicyFault)

-- the verdict on an entry with this fault, or none
abbrev pub verdict_of : Option PolicyFault → EpochVerdict
verdict_of None = Opened
verdict_of (Some fault) = Refused fault

-- the policy is the one in force after the entries up to n
abbrev pub Stands : Epochs → Found → ℕ → Type 0
Stands epochs checked n = epochs.current ≡ policy_after checked (succession epochs.anchor) n

-- entry number is the first after n that is for the policy, and this was found of it
pub record IsNext (checked : Found) (n number : ℕ) (found : Result Policy PolicyFault) : Type 0 where
  pub later : n < number
  pub between : (k : ℕ) → n < k → k < number → checked k ≡ None
  pub there : checked number ≡ Some found
