-- The first of some chains.
use Rattle.std.specs.Prelude.{◌≡◌, ◌≤◌, ℕ, List, [], ◌∷◌, length, Option, Some, None}
use Rattle.rule_files.specs.declared.rules.RuleFile.{RuleFile}
use Rattle.rule_delegations.specs.declared.places.RuleRef.{RuleRef}
use Rattle.rule_delegations.specs.Assembling.{IsDeep, IsFirstDeep}
use Rattle.rule_delegations.specs.Chains.{Before, Leads, last_place}

-- the first of these chains ends at this place
pub record EndsFirst (These : List RuleRef → Type 0) (place : RuleRef) : Type 0 where
  pub chain : List RuleRef
  pub is : These chain
  pub last : last_place chain ≡ place
  pub none_before : (other : List RuleRef) → These other → Before other chain → ⊥

-- the place at which the first of these chains ends, or that there is none
abbrev pub IsFirstEnd : (List RuleRef → Type 0) → Option RuleRef → Type 0
IsFirstEnd These None = (chain : List RuleRef) → These chain → ⊥
IsFirstEnd These (Some place) = EndsFirst These place

-- a chain of this length that begins at this place
abbrev pub BeginsAt : List RuleFile → RuleRef → ℕ → List RuleRef → Type 0
BeginsAt files place most [] = ⊥
BeginsAt files place most (p ∷ ps) = (p ≡ place) × Leads files place.file (p ∷ ps) × (length (p ∷ ps) ≡ most)

-- one that begins at a rule of this file, from this one on
abbrev pub BeginsIn : List RuleFile → ℕ → ℕ → ℕ → List RuleRef → Type 0
BeginsIn files file from most [] = ⊥
BeginsIn files file from most (p ∷ ps) = (from ≤ p.rule) × Leads files file (p ∷ ps) × (length (p ∷ ps) ≡ most)

-- the name of the rule at which the first chain of nine ends, or that there is none
abbrev pub IsDeepName : List RuleFile → Option (List ℕ) → Type 0
IsDeepName files None = (chain : List RuleRef) → IsDeep files chain → ⊥
IsDeepName files (Some name) = IsFirstDeep files name
