-- The most persons of a rule that a name reaches who signed.
use Rattle.std.specs.Prelude.{◌≡◌, ◌<◌, ◌≤◌, ℕ, [], ◌∷◌, List, Some, max}
use Rattle.std.specs.Option.{option_map_or}
use Rattle.root_metadata.specs.Persons.{count_in}
use Rattle.rule_files.specs.declared.rules.Rule.{Rule}
use Rattle.rule_files.specs.declared.rules.RuleFile.{RuleFile}
use Rattle.rule_delegations.specs.Chains.{last_rule, rule_at}
use Rattle.rule_delegations.specs.Reached.{Name, Reached}
use Rattle.rule_delegations.specs.declared.places.RuleRef.{RuleRef}
use Rattle.entry_rules.specs.Meeting.{reached}

-- how many persons of the rule at a place have a key among the signers
abbrev pub count_at : List RuleFile → List (List ℕ) → RuleRef → ℕ
count_at files signers place = option_map_or (λ rule. count_in rule.persons signers) (rule_at files place) 0

abbrev pub greatest_at : List RuleFile → List (List ℕ) → List RuleRef → ℕ
greatest_at files signers [] = 0
greatest_at files signers (place ∷ places) = max (count_at files signers place) (greatest_at files signers places)

-- the greatest over the last rules of the chains that a name reaches; 0 where it reaches none
abbrev pub greatest : List RuleFile → Name → List (List ℕ) → ℕ
greatest files name signers = greatest_at files signers (reached files name)

-- ---- read aloud

-- a reached chain's last rule has so many persons with a key among the signers
pub record IsCounted (files : List RuleFile) (name : Name) (signers : List (List ℕ)) (count : ℕ) : Type 0 where
  pub chain : List RuleRef
  pub reached : Reached files name chain
  pub rule : Rule
  pub last : last_rule files chain ≡ Some rule
  pub is : count_in rule.persons signers ≡ count

-- no reached chain's last rule has more, and one has so many, unless it is 0
pub record IsGreatest (files : List RuleFile) (name : Name) (signers : List (List ℕ)) (most : ℕ) : Type 0 where
  pub none_more : (count : ℕ) → IsCounted files name signers count → count ≤ most
  pub one : 0 < most → IsCounted files name signers most
