-- What holds of what would be found.
use Rattle.std.specs.Prelude.{◌≡◌, ℕ, List, Option, Some, None}
use Rattle.std.specs.List.{filter}
use Rattle.git_object.specs.Repository.{Repository}
use Rattle.rsl_chain.specs.Entries.{Taken}
use Rattle.rsl_chain.specs.declared.entries.EntryBody.TheVariants.{Reference}
use Rattle.recovery.specs.Lanes.{first_of}
use Rattle.rule_delegations.specs.Forests.{IsPolicy}
use Rattle.judging.specs.Logs.{attested_after, fault_of, from, policy_after}
use Rattle.policy_epochs.specs.declared.policies.Policy.{Policy}
use Rattle.entry_rules.specs.RealRules.{real_rules}
use Rattle.entry_rules.specs.Signing.{listed, signer_among}
use Rattle.would_be.specs.Would.{IsWould, is_key_of, would_fault}
use Rattle.would_be.specs.declared.proposals.Proposed.{Proposed}
use Rattle.would_be.specs.declared.proposals.Stood.{Stood}
use Rattle.would_be.specs.declared.proposals.Would.{Would}

-- the rules of the policy, if there is one, are those of a policy
abbrev pub HasRules : Option Policy → Type 0
HasRules None = Unit {0}
HasRules (Some policy) = IsPolicy policy.rules

-- the first of the faults that are told is the one that the entry would have, and where none is told it has none
abbrev pub FirstTold : Type 0
FirstTold = (anchor : Option (List (List ℕ))) (r : Repository) (current : Option Policy) (stood : Stood) (p : Proposed)
    (found : Would)
    → HasRules current → IsWould anchor r current stood p found
    → first_of found.faults ≡ would_fault anchor r current stood p

-- those of the keys that would sign it that the policy knows are the one whose signature of the entry is good, if it is
abbrev pub SignsAs : Option Policy → Proposed → Taken → Type 0
SignsAs None p t = Unit {0}
SignsAs (Some policy) p t = filter (is_key_of policy.keys) p.keys ≡ listed (signer_among policy.keys t.entry)

-- what stands behind a log, for an entry of a reference
abbrev pub stood_at : Option (List (List ℕ)) → List Taken → List ℕ → Stood
stood_at anchor log name = record { from = from (real_rules anchor) log name; attested = attested_after log }

-- the fault that an entry would have, if a key signed it, is the one that it has once it is signed by that key
abbrev pub AsRecorded : Type 0
AsRecorded = (anchor : Option (List (List ℕ))) (log : List Taken) (t : Taken) (p : Proposed)
    → t.entry.body ≡ Reference p.name p.target → SignsAs (policy_after (real_rules anchor) log) p t
    → would_fault anchor t.repository (policy_after (real_rules anchor) log) (stood_at anchor log p.name) p
    ≡ fault_of (real_rules anchor) log (Some t)
