-- What a policy says, a text for each thing: the ids of its keys, its persons with theirs, and for each role and rule
-- who is asked for what, and how many of them. A name and a pattern is its printable word, so that no space stands
-- in it.
use Rattle.std.specs.Prelude.{◌++◌, ◌∷◌, [], ℕ, Bool, List, codes, decimal, map, if◌then◌else◌}
use Rattle.std.specs.List.{flat_map, fold}
use Rattle.hex.specs.Hex.{encode_lower}
use Rattle.octets.specs.Escaped.{escaped}
use Rattle.ref_patterns.specs.Patterns.{Parts, prefix}
use Rattle.root_metadata.specs.declared.keys.Key.{Key}
use Rattle.root_metadata.specs.declared.persons.Person.{Person}
use Rattle.root_metadata.specs.declared.roots.Role.{Role}
use Rattle.rule_files.specs.declared.rules.Rule.{Rule}
use Rattle.rule_files.specs.declared.rules.RuleFile.{RuleFile}
use Rattle.policy_epochs.specs.declared.policies.Policy.{Policy}
use Rattle.policy_changes.specs.declared.says.PolicySays.{PolicySays}

-- the words of items, each behind a space
abbrev pub each_words : {T : Type 0} → (T → List ℕ) → List T → List ℕ
each_words words items = flat_map (λ item. 32 ∷ words item) items

abbrev pub key_words : Key → List ℕ
key_words key = encode_lower key.id

abbrev pub pattern_words : Parts → List ℕ
pattern_words pattern = escaped (prefix pattern.space ++ pattern.glob)

-- a person as roles and rules list one, and with the ids of the keys
abbrev pub named_words : Person → List ℕ
named_words person = escaped person.name

abbrev pub person_words : Person → List ℕ
person_words person = escaped person.name ++ each_words encode_lower person.keyids

-- whether the search ends behind a rule
abbrev pub openness : Bool → List ℕ
openness terminating = if terminating then codes " terminating" else codes " open"

abbrev pub rule_words : Rule → List ℕ
rule_words rule =
    codes "rule " ++ escaped rule.name ++ each_words pattern_words rule.patterns ++ codes " by"
    ++ each_words named_words rule.persons ++ openness rule.terminating

abbrev pub rule_threshold : Rule → List ℕ
rule_threshold rule = codes "rule " ++ escaped rule.name ++ codes " " ++ decimal rule.threshold

abbrev pub role_words : List ℕ → Role → List ℕ
role_words name role = codes "role " ++ name ++ codes " by" ++ each_words named_words role.persons

abbrev pub role_threshold : List ℕ → Role → List ℕ
role_threshold name role = codes "role " ++ name ++ codes " " ++ decimal role.threshold

-- of a policy's keys and its root
abbrev pub root_says : Policy → PolicySays
root_says policy = record {
  keys = map key_words policy.keys;
  persons = map person_words policy.root.persons;
  rules = role_words (codes "root") policy.root.root ∷ role_words (codes "targets") policy.root.targets ∷ [];
  thresholds = role_threshold (codes "root") policy.root.root
      ∷ role_threshold (codes "targets") policy.root.targets ∷ [];
}

-- with a rule file behind that
abbrev pub with_file : PolicySays → RuleFile → PolicySays
with_file says file = record {
  keys = says.keys;
  persons = says.persons ++ map person_words file.persons;
  rules = says.rules ++ map rule_words file.rules;
  thresholds = says.thresholds ++ map rule_threshold file.rules;
}

unfoldable pub says_of : Policy → PolicySays
says_of policy = fold with_file (root_says policy) policy.rules
