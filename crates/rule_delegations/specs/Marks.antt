-- Files that are come upon from the top file.
use Rattle.std.specs.Prelude.{◌≡◌, ◌⊎◌, ◌+◌, ◌++◌, ℕ, Bool, true, false, not, List, [], ◌∷◌, length, count_by, Some}
use Rattle.std.specs.Prelude.{slice_index_or}
use Rattle.rule_files.specs.declared.rules.RuleFile.{RuleFile}
use Rattle.rule_delegations.specs.declared.places.RuleRef.{RuleRef}
use Rattle.rule_delegations.specs.Chains.{IsChain, last_place}
use Rattle.rule_delegations.specs.Forests.{link_at}

-- the file at a place is marked
abbrev pub IsMarked : List Bool → ℕ → Type 0
IsMarked marks file = slice_index_or marks file false ≡ true

-- the number stands in the list
abbrev pub HasNumber : List ℕ → ℕ → Type 0
HasNumber [] number = ⊥
HasNumber (n ∷ ns) number = (n ≡ number) ⊎ HasNumber ns number

abbrev pub count_unmarked : List Bool → ℕ
count_unmarked marks = count_by not marks

-- some files of these were marked, and kept at the end of the order
pub record Grows (These : ℕ → Type 0) (marks : List Bool) (order : List ℕ) (now : List Bool)
    (then_order : List ℕ) : Type 0 where
  pub kept : (file : ℕ) → IsMarked marks file → IsMarked now file
  pub more : List ℕ
  pub added : then_order ≡ order ++ more
  pub new : (file : ℕ) → IsMarked now file → IsMarked marks file ⊎ HasNumber more file
  pub these : (file : ℕ) → HasNumber more file → These file
  pub count : count_unmarked now + length then_order ≡ count_unmarked marks + length order
  pub same : length now ≡ length marks

-- the top file, and each file below a chain's last rule
abbrev pub IsComeUpon : List RuleFile → ℕ → Type 0
IsComeUpon files file = (file ≡ 0)
    ⊎ ((chain : List RuleRef) × IsChain files chain × (link_at files (last_place chain) ≡ Some file))

-- exactly these files are marked
pub record AreMarked (files : List RuleFile) (marks : List Bool) : Type 0 where
  pub marked : (file : ℕ) → IsMarked marks file → IsComeUpon files file
  pub all : (file : ℕ) → IsComeUpon files file → IsMarked marks file
