-- What is found as by the whole rules.
use Rattle.std.specs.Prelude.{◌≡◌, ℕ, true, List, Some}
use Rattle.git_object.specs.References.{policy_name}
use Rattle.rsl_chain.specs.Entries.{Taken}
use Rattle.judging.specs.Logs.{before, entry_at, fault_at, is_entry_of, pending, policy_after, prior}
use Rattle.judging.specs.Logs.{prior_target, signers_of, skipped}
use Rattle.judging.specs.Rules.{Rules}
use Rattle.judging.specs.Verdicts.{verdict_of}
use Rattle.judged_logs.specs.Firsts.{rescuer_of, skipper_of}
use Rattle.judged_logs.specs.LaterRules.{rules_from}

module _ {P F : Type 0} (first : ℕ) (rules : Rules P F) (log : List Taken) where
  -- behind any entries
  pub record IsSameBehind : Type 0 where
    pub policy : policy_after (rules_from first rules) log ≡ policy_after rules log
    pub prior : (name : List ℕ) → prior (rules_from first rules) log name ≡ prior rules log name
    pub target : (name : List ℕ) → prior_target (rules_from first rules) log name ≡ prior_target rules log name
    pub skipped : (number : ℕ) → skipped (rules_from first rules) log number ≡ skipped rules log number
    pub skipper : (number : ℕ) → skipper_of (rules_from first rules) log number ≡ skipper_of rules log number
    -- the policy's own entries are judged, whatever numbers they have
    pub own : (number : ℕ) → is_entry_of (entry_at log number) policy_name ≡ true
        → fault_at (rules_from first rules) log number ≡ fault_at rules log number

  -- of the entry of a number from which on entries are judged
  pub record IsSameFrom (number : ℕ) : Type 0 where
    pub fault : fault_at (rules_from first rules) log number ≡ fault_at rules log number
    pub verdict : (t : Taken) → entry_at log number ≡ Some t
        → verdict_of (rules_from first rules) (before log number) t ≡ verdict_of rules (before log number) t
    pub signers : (t : Taken) → entry_at log number ≡ Some t
        → signers_of (rules_from first rules) (before log number) t ≡ signers_of rules (before log number) t
    pub pending : pending (rules_from first rules) log number ≡ pending rules log number
    pub rescuer : rescuer_of (rules_from first rules) log number ≡ rescuer_of rules log number
