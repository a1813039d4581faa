-- The persons of a policy who hold one of some keys, by their names.
use Rattle.std.specs.Prelude.{◌++◌, ◌∷◌, [], ℕ, Bool, List, Option, Some, None, map, not}
use Rattle.std.specs.List.{filter, flat_map, list_any}
use Rattle.std.specs.Str.{bytes_eq}
use Rattle.root_metadata.specs.declared.persons.Person.{Person}
use Rattle.rule_files.specs.declared.rules.RuleFile.{RuleFile}
use Rattle.policy_epochs.specs.declared.policies.Policy.{Policy}

-- the person has one of these keys
abbrev pub holds : List (List ℕ) → Person → Bool
holds keys person = list_any (λ id. list_any (λ key. bytes_eq key id) keys) person.keyids

-- the names of those of some persons who have one
abbrev pub holders : List (List ℕ) → List Person → List (List ℕ)
holders keys persons = map (λ person. person.name) (filter (holds keys) persons)

-- of several rule files, one behind the other
abbrev pub file_holders : List (List ℕ) → List RuleFile → List (List ℕ)
file_holders keys files = flat_map (λ file. holders keys file.persons) files

-- the names but this one
abbrev pub others : List ℕ → List (List ℕ) → List (List ℕ)
others name names = filter (λ other. not (bytes_eq name other)) names

-- each name once, where it stands first
abbrev pub each_once : List (List ℕ) → List (List ℕ)
each_once [] = []
each_once (name ∷ names) = name ∷ others name (each_once names)

-- of the policy's root and then of its rule files, each name once
abbrev pub persons_of : Option Policy → List (List ℕ) → List (List ℕ)
persons_of None keys = []
persons_of (Some policy) keys = each_once (holders keys policy.root.persons ++ file_holders keys policy.rules)
