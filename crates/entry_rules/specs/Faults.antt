-- The fault of an entry of a reference other than the policy's, under the policy in force: the first that holds.
use Rattle.std.specs.Prelude.{ℕ, [], List, Option, Some, None, if◌then◌else◌, option_and_then}
use Rattle.std.specs.Option.{option_map}
use Rattle.git_object.specs.Repository.{Repository}
use Rattle.rsl_chain.specs.declared.entries.Entry.{Entry}
use Rattle.rsl_chain.specs.declared.entries.EntryBody.{EntryBody}
use Rattle.rsl_chain.specs.declared.entries.EntryBody.TheVariants.{Reference, Annotation}
use Rattle.root_metadata.specs.Judged.{or_next}
use Rattle.root_metadata.specs.Persons.{count_in}
use Rattle.rule_files.specs.declared.rules.RuleFile.{RuleFile}
use Rattle.rule_delegations.specs.declared.places.RuleRef.{RuleRef}
use Rattle.rule_delegations.specs.Chains.{rule_at}
use Rattle.rule_delegations.specs.Reached.{Name}
use Rattle.tree_paths.specs.Repositories.{readings_of}
use Rattle.tree_paths.specs.States.{Ended, Faulty, Gone, Sound, walk_of}
use Rattle.policy_epochs.specs.declared.policies.Policy.{Policy}
use Rattle.entry_rules.specs.declared.faults.Fault.{Fault}
use Rattle.entry_rules.specs.declared.faults.Fault.TheVariants.{Broken, PathRule, RefRule}
use Rattle.entry_rules.specs.Changing.{least_unmet}
use Rattle.entry_rules.specs.Meeting.{file_name, first_place, git_name, meets, reached}
use Rattle.entry_rules.specs.Signing.{approved, joined, signer_among, tree_in}

-- what is told of the rule at a place: its name, how many of its persons signed, and its threshold
abbrev pub told_of : (List ℕ → ℕ → ℕ → Fault) → List RuleFile → List (List ℕ) → RuleRef → Option Fault
told_of make files signers place = option_map (λ rule. make rule.name (count_in rule.persons signers) rule.threshold)
    (rule_at files place)

-- of the rule that a name reaches first
abbrev pub first_told : (List ℕ → ℕ → ℕ → Fault) → List RuleFile → Name → List (List ℕ) → Option Fault
first_told make files name signers = option_and_then (told_of make files signers) (first_place (reached files name))

-- the reference is not met
abbrev pub ref_fault : List RuleFile → List ℕ → List (List ℕ) → Option Fault
ref_fault files name signers = if meets files (git_name name) signers then None else first_told RefRule files
    (git_name name) signers

-- the least changed path that is not met
abbrev pub path_fault : List RuleFile → List (List ℕ) → Option (List ℕ) → Option Fault
path_fault files signers None = None
path_fault files signers (Some path) = first_told (PathRule path) files (file_name path) signers

abbrev pub rules_fault : List RuleFile → List ℕ → List (List ℕ) → Ended → Ended → Option Fault
rules_fault files name signers s t =
    or_next (ref_fault files name signers) (path_fault files signers (least_unmet files signers s t))

-- the state that the reference had is broken, or else the one that it takes, or else a rule is not met
abbrev pub next_fault : List RuleFile → List ℕ → List (List ℕ) → Ended → Ended → Option Fault
next_fault files name signers s (Faulty id) = Some (Broken id)
next_fault files name signers s Gone = rules_fault files name signers s Gone
next_fault files name signers s (Sound tree ss c) = rules_fault files name signers s (Sound tree ss c)

abbrev pub change_fault : List RuleFile → List ℕ → List (List ℕ) → Ended → Ended → Option Fault
change_fault files name signers (Faulty id) t = Some (Broken id)
change_fault files name signers Gone t = next_fault files name signers Gone t
change_fault files name signers (Sound tree ss c) t = next_fault files name signers (Sound tree ss c) t

module _ (r : Repository) (policy : Policy) (entry : Entry) (from : List ℕ) (attested : Option (List ℕ)) where
  -- the keys of the policy that signed for a change to a target
  abbrev pub signers_for : List ℕ → List ℕ → List (List ℕ)
  signers_for name target = joined (signer_among policy.keys entry)
      (approved r policy.keys name from attested (tree_in (walk_of (readings_of r) target)))

  abbrev pub body_signers : EntryBody → List (List ℕ)
  body_signers (Reference name target) = signers_for name target
  body_signers (Annotation ids skip message) = []

  abbrev pub body_fault : EntryBody → Option Fault
  body_fault (Reference name target) =
      change_fault policy.rules name (signers_for name target) (walk_of (readings_of r) from)
      (walk_of (readings_of r) target)
  body_fault (Annotation ids skip message) = None

  -- who signed for the entry, whose reference stood at this target, by the attestations then
  unfoldable pub entry_signers : List (List ℕ)
  entry_signers = body_signers entry.body

  -- and its fault
  unfoldable pub entry_fault : Option Fault
  entry_fault = body_fault entry.body
