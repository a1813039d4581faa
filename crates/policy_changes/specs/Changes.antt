-- What one policy says and another does not, and the other way round.
use Rattle.std.specs.Prelude.{[], ℕ, List, if◌then◌else◌}
use Rattle.std.specs.List.{fold}
use Rattle.policy_changes.specs.Names.{has_name, with_name}
use Rattle.policy_epochs.specs.declared.policies.Policy.{Policy}
use Rattle.policy_changes.specs.Words.{says_of}
use Rattle.policy_changes.specs.declared.changes.Difference.{Difference}
use Rattle.policy_changes.specs.declared.changes.PolicyChange.{PolicyChange}
use Rattle.policy_changes.specs.declared.says.PolicySays.{PolicySays}

-- a text more of what was found beyond those that are there, each once
abbrev pub with_beyond : List (List ℕ) → List (List ℕ) → List ℕ → List (List ℕ)
with_beyond there found text = if has_name there text then found else with_name found text

abbrev pub beyond : List (List ℕ) → List (List ℕ) → List (List ℕ)
beyond there texts = fold (with_beyond there) [] texts

abbrev pub difference_of : List (List ℕ) → List (List ℕ) → Difference
difference_of was now = record { added = beyond was now; removed = beyond now was }

unfoldable pub change_said : PolicySays → PolicySays → PolicyChange
change_said was now = record {
  keys = difference_of was.keys now.keys;
  persons = difference_of was.persons now.persons;
  rules = difference_of was.rules now.rules;
  thresholds = difference_of was.thresholds now.thresholds;
}

-- what a policy changes of the one before it
abbrev pub change_between : Policy → Policy → PolicyChange
change_between was now = change_said (says_of was) (says_of now)
