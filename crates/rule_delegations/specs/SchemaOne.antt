-- Files in which each listed key is a person.
use Rattle.std.specs.Prelude.{◌≡◌, ◌⊎◌, ◌↔◌, ◌≤◌, ℕ, List, [], ◌∷◌, Some, map, count_by}
use Rattle.std.specs.List.{AllByRecursion, flat_map}
use Rattle.hex.specs.Hex.{encode_lower}
use Rattle.root_metadata.specs.Risings.{has_key}
use Rattle.root_metadata.specs.declared.persons.Person.{Person}
use Rattle.rule_files.specs.declared.rules.Rule.{Rule}
use Rattle.rule_files.specs.declared.rules.RuleFile.{RuleFile}
use Rattle.rule_delegations.specs.declared.places.RuleRef.{RuleRef}
use Rattle.rule_delegations.specs.Chains.{last_rule}
use Rattle.rule_delegations.specs.Reached.{Meets, Name, Reached}

-- the person that a listed id is, named by the id in hexadecimal
abbrev pub person_of : List ℕ → Person
person_of id = record { name = encode_lower id; keyids = id ∷ [] }

-- the key ids that a rule lists
abbrev pub listed_ids : Rule → List (List ℕ)
listed_ids rule = flat_map (λ person. person.keyids) rule.persons

-- each person of the rule is one of its listed ids
pub record ListsIds (rule : Rule) : Type 0 where
  pub ids : List (List ℕ)
  pub persons : rule.persons ≡ map person_of ids

-- a file of schema 1
pub record IsOfSchemaOne (file : RuleFile) : Type 0 where
  pub schema : file.schema ≡ 1
  pub lists : AllByRecursion ListsIds file.rules

-- a reached chain's last rule has at least its threshold of listed key ids in the set
pub record IsMetByIds (files : List RuleFile) (name : Name) (signers : List (List ℕ)) (chain : List RuleRef) : Type 0
  where
    pub reached : Reached files name chain
    pub rule : Rule
    pub is : last_rule files chain ≡ Some rule
    pub enough : rule.threshold ≤ count_by (has_key (λ id. id) signers) (listed_ids rule)

-- among files of schema 1 keys are counted, as if there were no persons
abbrev pub SchemaOneSame : Type 0
SchemaOneSame = (files : List RuleFile) (name : Name) (signers : List (List ℕ)) → AllByRecursion IsOfSchemaOne files
    → Meets files name signers
    ↔ (((chain : List RuleRef) → Reached files name chain → ⊥)
    ⊎ ((chain : List RuleRef) × IsMetByIds files name signers chain))
