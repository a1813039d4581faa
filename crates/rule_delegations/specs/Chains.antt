-- Chains of rules: a rule of the top file, then a rule of the file named after it, and so on (TUF's delegations).
use Rattle.std.specs.Prelude.{◌≡◌, ◌⊎◌, ◌<◌, ◌++◌, ℕ, List, [], ◌∷◌, slice_get, Option, Some, option_and_then}
use Rattle.rule_files.specs.declared.rules.Rule.{Rule}
use Rattle.rule_files.specs.declared.rules.RuleFile.{RuleFile}
use Rattle.rule_delegations.specs.declared.places.RuleRef.{RuleRef}

-- the rule at a place
abbrev pub rule_at : List RuleFile → RuleRef → Option Rule
rule_at files place = option_and_then (λ file. slice_get file.rules place.rule) (slice_get files place.file)

-- the file that stands here has the name
pub record IsNamed (files : List RuleFile) (at : ℕ) (name : List ℕ) : Type 0 where
  pub file : RuleFile
  pub is : slice_get files at ≡ Some file
  pub named : file.name ≡ name

-- the place is that of a rule of this file
pub record IsRule (files : List RuleFile) (file : ℕ) (place : RuleRef) : Type 0 where
  pub rule : Rule
  pub in_file : place.file ≡ file
  pub is : rule_at files place ≡ Some rule

-- a rule of this file, then a rule of the file named after it, and so on
abbrev pub Leads : List RuleFile → ℕ → List RuleRef → Type 0
Leads files file [] = ⊥
Leads files file (p ∷ []) = IsRule files file p
Leads files file (p ∷ q ∷ ps) = (first : IsRule files file p) × IsNamed files q.file first.rule.name
    × Leads files q.file (q ∷ ps)

-- a chain begins in the top file
abbrev pub IsChain : List RuleFile → List RuleRef → Type 0
IsChain files chain = Leads files 0 chain

-- the last place of a chain, which has one
abbrev pub last_place : List RuleRef → RuleRef
last_place [] = record { file = 0; rule = 0 }
last_place (p ∷ []) = p
last_place (p ∷ q ∷ ps) = last_place (q ∷ ps)

-- the last rule of a chain
abbrev pub last_rule : List RuleFile → List RuleRef → Option Rule
last_rule files chain = rule_at files (last_place chain)

-- places are ordered by the file, then by the rule
abbrev pub IsBefore : RuleRef → RuleRef → Type 0
IsBefore p q = (p.file < q.file) ⊎ ((p.file ≡ q.file) × (p.rule < q.rule))

-- pre-order: by the places, a prefix first
abbrev pub Before : List RuleRef → List RuleRef → Type 0
Before [] [] = ⊥
Before [] (q ∷ qs) = Unit {0}
Before (p ∷ ps) [] = ⊥
Before (p ∷ ps) (q ∷ qs) = IsBefore p q ⊎ ((p ≡ q) × Before ps qs)

-- the second begins with the first
abbrev pub IsPrefix : List RuleRef → List RuleRef → Type 0
IsPrefix front chain = (rest : List RuleRef) × (chain ≡ front ++ rest)
