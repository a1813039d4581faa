-- Which rules a name reaches, and whether one of them is met by a set of signers.
use Rattle.std.specs.Prelude.{◌||◌, [], ◌∷◌, ℕ, Bool, true, false, List, Option, Some, None}
use Rattle.std.specs.List.{list_any}
use Rattle.ref_patterns.specs.declared.space.Space.TheVariants.{Git, File}
use Rattle.rule_files.specs.declared.rules.Rule.{Rule}
use Rattle.rule_files.specs.declared.rules.RuleFile.{RuleFile}
use Rattle.rule_delegations.specs.declared.places.RuleRef.{RuleRef}
use Rattle.rule_delegations.specs.Reached.{Name, is_listed}
use Rattle.rule_delegations.specs.Walks.{is_enough, passes_at, walk}

-- the name of a reference, as rules speak of it
abbrev pub git_name : List ℕ → Name
git_name text = record { space = Git; text = text }

-- the name of a path
abbrev pub file_name : List ℕ → Name
file_name text = record { space = File; text = text }

-- the places of the last rules of the chains that a name reaches, in pre-order
abbrev pub reached : List RuleFile → Name → List RuleRef
reached files name = (walk files name 8 0).places

abbrev pub is_none_of : List RuleRef → Bool
is_none_of [] = true
is_none_of (place ∷ places) = false

-- no rule is reached, or some reached rule passes a test
abbrev pub passes : List RuleFile → (Rule → Bool) → List RuleRef → Bool
passes files test places = is_none_of places || list_any (passes_at files test) places

-- the name is met by the signers
abbrev pub meets : List RuleFile → Name → List (List ℕ) → Bool
meets files name signers = passes files (is_enough signers) (reached files name)

-- the key may act for the name
abbrev pub may_act : List RuleFile → Name → List ℕ → Bool
may_act files name key = passes files (λ rule. is_listed rule.persons key) (reached files name)

abbrev pub first_place : List RuleRef → Option RuleRef
first_place [] = None
first_place (place ∷ places) = Some place
