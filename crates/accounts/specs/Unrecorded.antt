-- References of which a log does not speak, though a rule does.
use Rattle.std.specs.Prelude.{◌&&◌, [], ℕ, Bool, false, not, List, Option, Some, None}
use Rattle.rsl_chain.specs.Entries.{Taken}
use Rattle.judging.specs.Logs.{policy_after}
use Rattle.judging.specs.Rules.{Rules}
use Rattle.policy_changes.specs.Names.{has_name, names_of}
use Rattle.policy_epochs.specs.declared.policies.Policy.{Policy}
use Rattle.entry_rules.specs.Meeting.{git_name, meets}
use Rattle.entry_rules.specs.declared.faults.Fault.{Fault}

-- under the policy in force no entry of the reference is authorised that nobody signs or approves
abbrev pub is_protected : Option Policy → List ℕ → Bool
is_protected None name = false
is_protected (Some policy) name = not (meets policy.rules (git_name name) [])

-- no entry of the log is the reference's, and the policy in force behind the log protects it
abbrev pub is_unrecorded : Rules Policy Fault → List Taken → List ℕ → Bool
is_unrecorded rules log name = not (has_name (names_of log) name) && is_protected (policy_after rules log) name
