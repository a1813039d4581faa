-- What is known of each entry of a log once it is judged: by the entries before it, and it alone.
use Rattle.std.specs.Prelude.{◌&&◌, ◌++◌, ◌∷◌, [], ℕ, Bool, List, length}
use Rattle.std.specs.Prelude.{Option, Some, None, is_none, is_some, if◌then◌else◌}
use Rattle.std.specs.List.{filter}
use Rattle.git_object.specs.References.{policy_name}
use Rattle.rsl_chain.specs.Entries.{Taken, is_of}
use Rattle.rsl_chain.specs.declared.entries.Entry.{Entry}
use Rattle.rsl_chain.specs.declared.entries.EntryBody.{EntryBody}
use Rattle.rsl_chain.specs.declared.entries.EntryBody.TheVariants.{Reference, Annotation}
use Rattle.recovery.specs.Lanes.{last_of}
use Rattle.judging.specs.Logs.{authorised, entry_at, fault_of, is_entry_of, numbers, policy_after, prior}
use Rattle.judging.specs.Logs.{prior_target, signers_of}
use Rattle.judging.specs.Rules.{Rules}
use Rattle.judging.specs.Verdicts.{verdict_of}
use Rattle.policy_changes.specs.Changes.{change_between}
use Rattle.policy_changes.specs.declared.changes.PolicyChange.{PolicyChange}
use Rattle.policy_epochs.specs.declared.policies.Policy.{Policy}
use Rattle.entry_rules.specs.RealRules.{real_rules}
use Rattle.entry_rules.specs.Signing.{listed, signer_among}
use Rattle.entry_rules.specs.declared.faults.Fault.{Fault}
use Rattle.policy_changes.specs.Persons.{persons_of}
use Rattle.account_lines.specs.declared.rows.EntryRow.{EntryRow}

-- the number of the last entry of an entry's reference before it that is not skipped
abbrev pub prior_of : Rules Policy Fault → List Taken → EntryBody → Option ℕ
prior_of rules earlier (Reference name target) = prior rules earlier name
prior_of rules earlier (Annotation ids skip message) = None

-- where the reference of an entry stood before it: the target of its last entry that is not skipped
abbrev pub from_of : Rules Policy Fault → List Taken → EntryBody → Option (List ℕ)
from_of rules earlier (Reference name target) = prior_target rules earlier name
from_of rules earlier (Annotation ids skip message) = None

-- the entry is one of the policy's reference that is authorised, and so brings its policy into force
abbrev pub opens_at : Rules Policy Fault → List Taken → ℕ → Bool
opens_at rules log i = is_entry_of (entry_at log i) policy_name && authorised rules log i

-- the number of the last such entry
abbrev pub epoch_of : Rules Policy Fault → List Taken → Option ℕ
epoch_of rules log = last_of (filter (opens_at rules log) (numbers (length log)))

-- the key that the entry names, where it is one of the policy and the signature is good by it
abbrev pub signer_in : Option Policy → Entry → Option (List ℕ)
signer_in None entry = None
signer_in (Some policy) entry = signer_among policy.keys entry

-- the keys whose persons are told: those that signed or approved an entry of a reference, and of an annotation its
-- signer
abbrev pub counted_by : EntryBody → Option (List ℕ) → List (List ℕ) → List (List ℕ)
counted_by (Reference name target) signer signers = signers
counted_by (Annotation ids skip message) signer signers = listed signer

-- what a policy changes of the one before it, where both are there
abbrev pub changed_between : Option Policy → Option Policy → Option PolicyChange
changed_between None now = None
changed_between (Some was) None = None
changed_between (Some was) (Some now) = Some (change_between was now)

-- what the policy that the entry brings into force changes of the one before it
abbrev pub changed_of : Rules Policy Fault → List Taken → Taken → Option PolicyChange
changed_of rules earlier t =
    if is_of t.entry.body policy_name && is_none (fault_of rules earlier (Some t))
    then changed_between (policy_after rules earlier) (policy_after rules (earlier ++ t ∷ [])) else None

-- of the entry that comes after these
abbrev pub row_of : Option (List (List ℕ)) → List Taken → Taken → EntryRow
row_of anchor earlier t = record {
  id = t.entry.id;
  epoch = epoch_of (real_rules anchor) earlier;
  prior = prior_of (real_rules anchor) earlier t.entry.body;
  from = from_of (real_rules anchor) earlier t.entry.body;
  signed = is_some (signer_in (policy_after (real_rules anchor) earlier) t.entry);
  signers = signers_of (real_rules anchor) earlier t;
  persons = persons_of (policy_after (real_rules anchor) earlier)
      (counted_by t.entry.body (signer_in (policy_after (real_rules anchor) earlier) t.entry)
      (signers_of (real_rules anchor) earlier t));
  verdict = verdict_of (real_rules anchor) earlier t;
  changed = changed_of (real_rules anchor) earlier t;
}

-- of each of the later entries, which stand behind the earlier ones
abbrev pub rows_behind : Option (List (List ℕ)) → List Taken → List Taken → List EntryRow
rows_behind anchor earlier [] = []
rows_behind anchor earlier (t ∷ later) = row_of anchor earlier t ∷ rows_behind anchor (earlier ++ t ∷ []) later

-- of each entry of the log
abbrev pub rows_of : Option (List (List ℕ)) → List Taken → List EntryRow
rows_of anchor log = rows_behind anchor [] log
