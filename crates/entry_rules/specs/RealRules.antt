-- The rules of judging over policies: which policy an entry opens, which fault another one has, who may skip.
use Rattle.std.specs.Prelude.{◌+◌, ◌&&◌, ℕ, Bool, false, List, Option, Some, None, Result, Ok, Err}
use Rattle.std.specs.Str.{bytes_eq}
use Rattle.rsl_chain.specs.Entries.{target_of}
use Rattle.judging.specs.Rules.{Rules}
use Rattle.tree_paths.specs.Changes.{shared_reads}
use Rattle.tree_paths.specs.Readings.{Readings}
use Rattle.tree_paths.specs.Repositories.{readings_of}
use Rattle.tree_paths.specs.States.{is_sound, walk_of}
use Rattle.tree_paths.specs.declared.states.Comparison.{Comparison}
use Rattle.tree_paths.specs.declared.states.Comparison.TheVariants as comparison
use Rattle.policy_epochs.specs.Succession.{succession}
use Rattle.policy_epochs.specs.declared.faults.PolicyFault.{PolicyFault}
use Rattle.policy_epochs.specs.declared.policies.Policy.{Policy}
use Rattle.policy_reading.specs.Policies.{policy_of, policy_reads}
use Rattle.entry_rules.specs.declared.faults.Fault.{Fault}
use Rattle.entry_rules.specs.declared.faults.Fault.TheVariants.{NoPolicy, NotEpoch}
use Rattle.entry_rules.specs.Faults.{entry_fault, entry_signers}
use Rattle.entry_rules.specs.Meeting.{git_name, may_act}
use Rattle.entry_rules.specs.Signing.{signer_among, tree_in}

-- a valid policy that nothing keeps from taking effect is opened
abbrev pub opens : Policy → Option PolicyFault → Result Policy Fault
opens policy None = Ok policy
opens policy (Some why) = Err (NotEpoch why)

abbrev pub epoch_by : Option (List (List ℕ)) → Option Policy → Result Policy PolicyFault → Result Policy Fault
epoch_by anchor current (Ok policy) = opens policy (succession anchor current policy)
epoch_by anchor current (Err why) = Err (NotEpoch why)

abbrev pub both_sound : Readings → List ℕ → List ℕ → Bool
both_sound readings from to = is_sound (walk_of readings from) && is_sound (walk_of readings to)

-- the reads of a comparison of two targets that are not broken: 18, and one for each tree that is visited for the
-- second,
-- or for the first and not at the same place for the second
abbrev pub comparison_reads : Readings → List ℕ → List ℕ → ℕ
comparison_reads readings from to = 18 + shared_reads (walk_of readings from) (walk_of readings to)

-- the reads of looking an approval up: 28, where there are attestations
abbrev pub approval_reads : Option (List ℕ) → ℕ
approval_reads None = 0
approval_reads (Some attestations) = 28

-- two states that were compared have one tree
abbrev pub has_one_tree : Comparison → Bool
has_one_tree (comparison.Broken id) = false
has_one_tree (comparison.Changed from to paths) = bytes_eq from to

-- where ids are given, they are those of the keys that the first policy must have
abbrev pub real_rules : Option (List (List ℕ)) → Rules Policy Fault
real_rules anchor = record {
  no_policy = NoPolicy;
  epoch = λ r current entry. epoch_by anchor current (policy_of r (target_of entry.body));
  fault = entry_fault;
  signers = entry_signers;
  tree_of = λ r target. tree_in (walk_of (readings_of r) target);
  skipper = λ policy annotation. signer_among policy.keys annotation;
  may_skip = λ policy key name. may_act policy.rules (git_name name) key;
  epoch_reads = λ r current entry. policy_reads r (target_of entry.body);
  bounded = λ r from to. both_sound (readings_of r) from to;
  fault_reads = λ r policy entry from attested. comparison_reads (readings_of r) from (target_of entry.body)
      + approval_reads attested;
  tree_reads = λ r from to. comparison_reads (readings_of r) from to;
}
