-- What keeps a valid policy from taking effect: rules from one policy to the next, and of the first.
use Rattle.std.specs.Prelude.{◌==◌, ◌+◌, ◌&&◌, ◌||◌, ℕ, Bool, List, Option, Some, None, nat_le, nat_lt, not}
use Rattle.std.specs.Prelude.{if◌then◌else◌}
use Rattle.std.specs.List.{find, list_all, list_any}
use Rattle.std.specs.Option.{option_map}
use Rattle.std.specs.Str.{bytes_eq}
use Rattle.approvals.specs.Signers.{env_signers}
use Rattle.root_metadata.specs.Judged.{or_next}
use Rattle.root_metadata.specs.Persons.{count_in}
use Rattle.root_metadata.specs.Risings.{has_key}
use Rattle.root_metadata.specs.Shapes.{only_if}
use Rattle.root_metadata.specs.declared.persons.Person.{Person}
use Rattle.policy_epochs.specs.declared.faults.PolicyFault.{PolicyFault}
use Rattle.policy_epochs.specs.declared.faults.PolicyFault.TheVariants.{Anchor, FileDropped, FileVersion}
use Rattle.policy_epochs.specs.declared.faults.PolicyFault.TheVariants.{RootSuccession, RootVersion}
use Rattle.policy_epochs.specs.declared.policies.Policy.{Policy}
use Rattle.policy_epochs.specs.declared.policies.PolicyFile.{PolicyFile}

-- ---- the first policy
-- the id is among these
abbrev pub has_id : List (List ℕ) → List ℕ → Bool
has_id ids id = has_key (λ other. other) ids id

-- each key of the person is among the ids
abbrev pub is_given : List (List ℕ) → Person → Bool
is_given ids person = list_all (has_id ids) person.keyids

-- the id is that of a key of some person
abbrev pub is_known : List Person → List ℕ → Bool
is_known persons id = list_any (λ person. has_id person.keyids id) persons

-- the keys of the persons are exactly those of the ids
abbrev pub are_exactly : List (List ℕ) → List Person → Bool
are_exactly ids persons = list_all (is_given ids) persons && list_all (is_known persons) ids

-- where ids are given, they are those of the root role's persons
abbrev pub anchor_fault : Option (List (List ℕ)) → Policy → Option PolicyFault
anchor_fault None new = None
anchor_fault (Some ids) new = only_if (not (are_exactly ids new.root.root.persons)) Anchor

-- ---- the root
abbrev pub same_root : Policy → Policy → Bool
same_root old new = bytes_eq new.envelope.payload old.envelope.payload

-- a root that is another has the next version
abbrev pub version_fault : Policy → Policy → Option PolicyFault
version_fault old new =
    only_if (not (same_root old new || new.root.version == old.root.version + 1))
    (RootVersion old.root.version new.root.version)

-- the persons of the old root role who are among the signers are as many as it asks for
abbrev pub signing_fault : Policy → List (List ℕ) → Option PolicyFault
signing_fault old signers =
    let got = count_in old.root.root.persons signers in
    only_if (not (nat_le old.root.root.threshold got)) (RootSuccession got old.root.root.threshold)

-- a root that is another is signed by them, with keys of the old root
abbrev pub root_fault : Policy → Policy → Option PolicyFault
root_fault old new = (if same_root old new then None else signing_fault old (env_signers new.envelope old.root.keys))

-- ---- rule files
-- some file has the name
abbrev pub has_file : List PolicyFile → List ℕ → Bool
has_file files name = list_any (λ file. bytes_eq file.name name) files

-- the new file is the old one with other bytes and no higher version
abbrev pub is_changed : PolicyFile → PolicyFile → Bool
is_changed old new = bytes_eq new.name old.name
    && (not (bytes_eq new.payload old.payload) && nat_le new.version old.version)

abbrev pub is_lowered : List PolicyFile → PolicyFile → Bool
is_lowered new old = list_any (λ file. is_changed old file) new

-- the file of the name had a version below this
abbrev pub was_lower : List PolicyFile → List ℕ → ℕ → Bool
was_lower old name version = list_any (λ file. bytes_eq file.name name && nat_lt file.version version) old

abbrev pub is_above : List PolicyFile → List ℕ → PolicyFile → Bool
is_above old name file = bytes_eq file.name name && was_lower old name file.version

-- both have a file of the name, the new one with a higher version
abbrev pub is_raised : List PolicyFile → List PolicyFile → List ℕ → Bool
is_raised old new name = list_any (λ file. is_above old name file) new

-- a file may go where what held its rule has a higher version or is gone too, and the top file where the root's is
-- higher
abbrev pub may_go : List PolicyFile → List PolicyFile → Bool → Option (List ℕ) → Bool
may_go old new root_raised None = root_raised
may_go old new root_raised (Some name) = is_raised old new name || not (has_file new name)

abbrev pub is_dropped : List PolicyFile → List PolicyFile → Bool → PolicyFile → Bool
is_dropped old new root_raised file = not (has_file new file.name) && not (may_go old new root_raised file.holder)

-- a rule file that both have has the same bytes or a higher version
abbrev pub lowered_fault : Policy → Policy → Option PolicyFault
lowered_fault old new = option_map (λ file. FileVersion file.name) (find (is_lowered new.files) old.files)

-- a rule file that only the old one has may go
abbrev pub dropped_fault : Policy → Policy → Option PolicyFault
dropped_fault old new =
    option_map (λ file. FileDropped file.name)
    (find (is_dropped old.files new.files (nat_lt old.root.version new.root.version)) old.files)

-- ---- all of them
-- the first rule that a policy after another breaks
abbrev pub following_fault : Policy → Policy → Option PolicyFault
following_fault old new = or_next (version_fault old new)
    (or_next (root_fault old new) (or_next (lowered_fault old new) (dropped_fault old new)))

-- the first rule that a policy breaks under the one in force, or as the first of a log
abbrev pub succession : Option (List (List ℕ)) → Option Policy → Policy → Option PolicyFault
succession anchor None new = anchor_fault anchor new
succession anchor (Some old) new = following_fault old new
