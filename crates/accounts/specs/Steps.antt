-- What is answered of one entry.
use Rattle.std.specs.Prelude.{◌&&◌, ◌||◌, ℕ, Bool, true, false, List, Option, Some, None}
use Rattle.std.specs.Prelude.{is_none, is_some, Result, Ok, Err, if◌then◌else◌}
use Rattle.std.specs.List.{list_any}
use Rattle.std.specs.Str.{bytes_eq}
use Rattle.git_object.specs.References.{attestations_name, policy_name}
use Rattle.git_object.specs.Repository.{Repository}
use Rattle.rsl_chain.specs.Entries.{is_of, target_of}
use Rattle.rsl_chain.specs.declared.entries.Entry.{Entry}
use Rattle.rsl_chain.specs.declared.entries.EntryBody.{EntryBody}
use Rattle.rsl_chain.specs.declared.entries.EntryBody.TheVariants.{Reference, Annotation}
use Rattle.judging.specs.declared.verdicts.EntryVerdict.{EntryVerdict}
use Rattle.judging.specs.declared.verdicts.EntryVerdict.TheVariants.{Authorised, Refused, Noted}
use Rattle.policy_changes.specs.Changes.{change_said}
use Rattle.policy_changes.specs.Words.{says_of}
use Rattle.policy_changes.specs.declared.changes.PolicyChange.{PolicyChange}
use Rattle.policy_changes.specs.declared.says.PolicySays.{PolicySays}
use Rattle.policy_epochs.specs.declared.faults.PolicyFault.{PolicyFault}
use Rattle.policy_epochs.specs.declared.policies.Policy.{Policy}
use Rattle.policy_reading.specs.Policies.{policy_of}
use Rattle.entry_rules.specs.declared.faults.Fault.{Fault}
use Rattle.would_be.specs.declared.proposals.Proposed.{Proposed}
use Rattle.accounts.specs.Rows.{signer_in}

abbrev pub is_authorised : EntryVerdict Fault → Bool
is_authorised Authorised = true
is_authorised (Refused fault) = false
is_authorised Noted = false

-- the target of the attestations' reference, after an entry of this body
abbrev pub attested_then : Option (List ℕ) → EntryBody → Option (List ℕ)
attested_then attested body = if is_of body attestations_name then Some (target_of body) else attested

-- the rules do not find who signed the entry: it is an annotation, or one of the policy's reference
abbrev pub is_apart : EntryBody → Bool
is_apart (Reference name target) = bytes_eq name policy_name
is_apart (Annotation ids skip message) = true

-- the signer of such an entry, under the policy in force before it
abbrev pub apart_signer : Option Policy → Entry → Option (List ℕ)
apart_signer policy entry = if is_apart entry.body then signer_in policy entry else None

-- a key that is named is one of these
abbrev pub is_among : Option (List ℕ) → List (List ℕ) → Bool
is_among None keys = false
is_among (Some id) keys = list_any (λ key. bytes_eq key id) keys

-- the key that another entry names signed it: it is one of those that signed or approved, and it did not approve alone,
-- as none does where nothing is attested
abbrev pub is_signed_among : Option Policy → Entry → Option (List ℕ) → List (List ℕ) → Bool
is_signed_among policy entry attested signers =
    is_among entry.signer signers && (is_none attested || is_some (signer_in policy entry))

-- what the policy in force says, before an entry that is the policy's reference's
abbrev pub said_before : Option Policy → Bool → Option PolicySays
said_before None own = None
said_before (Some policy) own = if own then Some (says_of policy) else None

-- what changed from that to the policy in force behind the entry, where that brought it there
abbrev pub changed_then : Bool → Option PolicySays → Option Policy → Option PolicyChange
changed_then false said now = None
changed_then true None now = None
changed_then true (Some said) None = None
changed_then true (Some said) (Some policy) = Some (change_said said (says_of policy))

-- what a policy that was found changes of the one in force, where both are
abbrev pub change_by : Option Policy → Result Policy PolicyFault → Option PolicyChange
change_by None found = None
change_by (Some policy) (Err why) = None
change_by (Some policy) (Ok now) = Some (change_said (says_of policy) (says_of now))

-- what an entry of the policy's reference would, whether or not it brought its policy into force
abbrev pub would_change : Option Policy → Repository → Proposed → Option PolicyChange
would_change policy r p = if bytes_eq p.name policy_name then change_by policy (policy_of r p.target) else None
