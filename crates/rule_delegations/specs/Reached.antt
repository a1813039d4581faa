-- Which rules a name reaches, and when it is met (TUF's search of delegations).
use Rattle.std.specs.Prelude.{◌≡◌, ◌⊎◌, ◌≤◌, ◌&&◌, ℕ, Bool, true, List, [], ◌∷◌, Option, Some, None, map}
use Rattle.std.specs.List.{AllByRecursion, list_any}
use Rattle.ref_patterns.specs.declared.space.Space.{Space}
use Rattle.ref_patterns.specs.Globs.{matches}
use Rattle.ref_patterns.specs.Patterns.{Parts, same_space}
use Rattle.root_metadata.specs.Persons.{count_in}
use Rattle.root_metadata.specs.Risings.{has_key}
use Rattle.root_metadata.specs.declared.persons.Person.{Person}
use Rattle.rule_files.specs.declared.rules.Rule.{Rule}
use Rattle.rule_files.specs.declared.rules.RuleFile.{RuleFile}
use Rattle.rule_delegations.specs.declared.places.RuleRef.{RuleRef}
use Rattle.rule_delegations.specs.declared.places.Short.{Short}
use Rattle.rule_delegations.specs.Chains.{Before, IsChain, IsPrefix, last_place, last_rule, rule_at}

-- a name of a reference or of a file
pub record Name : Type 0 where
  pub space : Space
  pub text : List ℕ

-- the pattern speaks of the name
abbrev pub pattern_matches : Name → Parts → Bool
pattern_matches name pattern = same_space pattern.space name.space && matches pattern.glob name.text

-- a rule matches a name where one of its patterns does
abbrev pub rule_matches : Name → Rule → Bool
rule_matches name rule = list_any (pattern_matches name) rule.patterns

-- the rule at a place matches the name
pub record Matches (files : List RuleFile) (name : Name) (place : RuleRef) : Type 0 where
  pub rule : Rule
  pub is : rule_at files place ≡ Some rule
  pub matches : rule_matches name rule ≡ true

-- a chain's last rule is terminating
pub record Terminates (files : List RuleFile) (chain : List RuleRef) : Type 0 where
  pub rule : Rule
  pub is : last_rule files chain ≡ Some rule
  pub terminating : rule.terminating ≡ true

-- every rule on the chain matches, and no earlier chain that is no prefix of it ended the search: one whose rules all
-- match,
-- the last of which is terminating
pub record Reached (files : List RuleFile) (name : Name) (chain : List RuleRef) : Type 0 where
  pub is_chain : IsChain files chain
  pub matches : AllByRecursion (Matches files name) chain
  pub unstopped : (other : List RuleRef) → IsChain files other → Before other chain → (IsPrefix other chain → ⊥)
      → AllByRecursion (Matches files name) other → Terminates files other → ⊥

-- the chain stands in the list
abbrev pub Holds : List (List RuleRef) → List RuleRef → Type 0
Holds [] chain = ⊥
Holds (c ∷ cs) chain = (c ≡ chain) ⊎ Holds cs chain

-- each chain is before all that follow it
abbrev pub InOrder : List (List RuleRef) → Type 0
InOrder [] = Unit {0}
InOrder (c ∷ cs) = AllByRecursion (Before c) cs × InOrder cs

-- the places of the last rules of the reached chains, in pre-order
pub record AreReached (files : List RuleFile) (name : Name) (places : List RuleRef) : Type 0 where
  pub chains : List (List RuleRef)
  pub reached : (chain : List RuleRef) → Holds chains chain → Reached files name chain
  pub all : (chain : List RuleRef) → Reached files name chain → Holds chains chain
  pub in_order : InOrder chains
  pub lasts : places ≡ map last_place chains

-- this chain is reached, and none before it
pub record IsFirst (files : List RuleFile) (name : Name) (chain : List RuleRef) : Type 0 where
  pub reached : Reached files name chain
  pub none_before : (other : List RuleRef) → Reached files name other → Before other chain → ⊥

-- the place of the last rule of the first reached chain, or that no chain is reached
abbrev pub IsFirstReached : List RuleFile → Name → Option RuleRef → Type 0
IsFirstReached files name None = (chain : List RuleRef) → Reached files name chain → ⊥
IsFirstReached files name (Some place) = (chain : List RuleRef) × IsFirst files name chain × (last_place chain ≡ place)

-- a reached chain's last rule has at least its threshold of persons with a key in the set
pub record IsMet (files : List RuleFile) (name : Name) (signers : List (List ℕ)) (chain : List RuleRef) : Type 0 where
  pub reached : Reached files name chain
  pub rule : Rule
  pub is : last_rule files chain ≡ Some rule
  pub enough : rule.threshold ≤ count_in rule.persons signers

-- no chain is reached, or some reached chain's last rule is met
abbrev pub Meets : List RuleFile → Name → List (List ℕ) → Type 0
Meets files name signers = ((chain : List RuleRef) → Reached files name chain → ⊥)
    ⊎ ((chain : List RuleRef) × IsMet files name signers chain)

-- the key is one of some person's
abbrev pub is_listed : List Person → List ℕ → Bool
is_listed persons key = list_any (λ person. has_key (λ id. id) person.keyids key) persons

-- a reached chain's last rule has a person with the key
pub record IsListed (files : List RuleFile) (name : Name) (key : List ℕ) (chain : List RuleRef) : Type 0 where
  pub reached : Reached files name chain
  pub rule : Rule
  pub is : last_rule files chain ≡ Some rule
  pub listed : is_listed rule.persons key ≡ true

-- no chain is reached, or some reached chain's last rule has a person with the key
abbrev pub MayAct : List RuleFile → Name → List ℕ → Type 0
MayAct files name key = ((chain : List RuleRef) → Reached files name chain → ⊥)
    ⊎ ((chain : List RuleRef) × IsListed files name key chain)

-- of the first reached chain's last rule: its place, how many of its persons have a key in the set, and its threshold
pub record IsShortBy (files : List RuleFile) (name : Name) (signers : List (List ℕ)) (short : Short) : Type 0 where
  pub first : IsFirstReached files name (Some short.place)
  pub rule : Rule
  pub is : rule_at files short.place ≡ Some rule
  pub got : short.got ≡ count_in rule.persons signers
  pub need : short.need ≡ rule.threshold

abbrev pub IsShort : List RuleFile → Name → List (List ℕ) → Option Short → Type 0
IsShort files name signers None = IsFirstReached files name None
IsShort files name signers (Some short) = IsShortBy files name signers short
