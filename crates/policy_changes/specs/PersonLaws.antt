-- What holds of the persons that are told.
use Rattle.std.specs.Prelude.{◌≡◌, ◌&&◌, ◌||◌, ◌++◌, [], ℕ, Bool, List, Option, Some}
use Rattle.std.specs.List.{list_any}
use Rattle.std.specs.Str.{bytes_eq}
use Rattle.root_metadata.specs.declared.persons.Person.{Person}
use Rattle.policy_changes.specs.LogLaws.{AreApart}
use Rattle.policy_changes.specs.Names.{has_name}
use Rattle.policy_epochs.specs.declared.policies.Policy.{Policy}
use Rattle.policy_changes.specs.Persons.{each_once, holds, persons_of}

-- one of the persons has this name and one of the keys
abbrev pub is_held : List (List ℕ) → List ℕ → List Person → Bool
is_held keys name persons = list_any (λ person. holds keys person && bytes_eq person.name name) persons

-- a name is told exactly where a person of it, of the root or of a rule file, has one of the keys; no two are alike;
-- with more names behind, those that are there stay where they are; with no keys none is
pub record NamedWhere : Type 0 where
  pub named : (policy : Policy) (keys : List (List ℕ)) (name : List ℕ)
      → has_name (persons_of (Some policy) keys) name
      ≡ (is_held keys name policy.root.persons || list_any (λ file. is_held keys name file.persons) policy.rules)
  pub apart : (policy : Option Policy) (keys : List (List ℕ)) → AreApart (persons_of policy keys)
  pub stay : (names more : List (List ℕ))
      → (rest : List (List ℕ)) × (each_once (names ++ more) ≡ each_once names ++ rest)
  pub nobody : (policy : Option Policy) → persons_of policy [] ≡ []
