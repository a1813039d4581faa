-- What keeps rule files from being the rules of a policy, in the order in which it is tried.
use Rattle.std.specs.Prelude.{◌≡◌, ◌⊎◌, ◌<◌, ◌≤◌, ℕ, List, Option, Some, None, length, map, count_by, sum_by}
use Rattle.std.specs.Prelude.{if◌then◌else◌, nat_lt}
use Rattle.std.specs.List.{flat_map}
use Rattle.std.specs.Str.{bytes_eq}
use Rattle.std.specs.declared.cmp.Ordering.TheVariants.{Less}
use Rattle.octets.specs.BytesMap.{by_bytes}
use Rattle.rule_files.specs.declared.rules.Rule.{Rule}
use Rattle.rule_files.specs.declared.rules.RuleFile.{RuleFile}
use Rattle.rule_delegations.specs.declared.places.RuleRef.{RuleRef}
use Rattle.rule_delegations.specs.declared.assembling.AssembleFault.{AssembleFault}
use Rattle.rule_delegations.specs.declared.assembling.AssembleFault.TheVariants.{DuplicateName, Unreachable, TooDeep}
use Rattle.rule_delegations.specs.declared.assembling.AssembleFault.TheVariants.{TooMany, Memory}
use Rattle.rule_delegations.specs.Chains.{Before, IsChain, IsNamed, last_rule}
use Rattle.rule_delegations.specs.Forests.{AreShallow, IsPolicy}

-- the names of all rules, and of all files
abbrev pub rule_names : List RuleFile → List (List ℕ)
rule_names files = flat_map (λ file. map (λ rule. rule.name) file.rules) files

abbrev pub file_names : List RuleFile → List (List ℕ)
file_names files = map (λ file. file.name) files

-- how often the name stands in the list
abbrev pub times : List ℕ → List (List ℕ) → ℕ
times name names = count_by (bytes_eq name) names

-- two rules, or two files, have the name
abbrev pub IsTwice : List RuleFile → List ℕ → Type 0
IsTwice files name = (2 ≤ times name (rule_names files)) ⊎ (2 ≤ times name (file_names files))

-- a chain's last rule has the name
pub record IsOnChain (files : List RuleFile) (name : List ℕ) : Type 0 where
  pub chain : List RuleRef
  pub is_chain : IsChain files chain
  pub rule : Rule
  pub last : last_rule files chain ≡ Some rule
  pub named : rule.name ≡ name

-- a file other than the top has the name, and no rule on a chain has it
pub record IsCutOff (files : List RuleFile) (name : List ℕ) : Type 0 where
  pub at : ℕ
  pub is : IsNamed files at name
  pub below : 0 < at
  pub off : IsOnChain files name → ⊥

-- a chain of nine rules
pub record IsDeep (files : List RuleFile) (chain : List RuleRef) : Type 0 where
  pub is_chain : IsChain files chain
  pub long : length chain ≡ 9

-- the first chain of nine rules in pre-order ends in a rule of the name
pub record IsFirstDeep (files : List RuleFile) (name : List ℕ) : Type 0 where
  pub chain : List RuleRef
  pub deep : IsDeep files chain
  pub none_before : (other : List RuleRef) → IsDeep files other → Before other chain → ⊥
  pub rule : Rule
  pub last : last_rule files chain ≡ Some rule
  pub named : rule.name ≡ name

-- how many rules all files have, and how many keys they list, repeats included
abbrev pub count_of_rules : List RuleFile → ℕ
count_of_rules files = sum_by (λ file. length file.rules) files

abbrev pub count_of_keys : List RuleFile → ℕ
count_of_keys files = sum_by (λ file. length file.keys) files

-- the number that is past 1,024: of the rules or, where these are few enough, of the keys
abbrev pub excess : List RuleFile → Option ℕ
excess files =
    (if nat_lt 1024 (count_of_rules files) then Some (count_of_rules files)
    else (if nat_lt 1024 (count_of_keys files) then Some (count_of_keys files) else None))

-- no name has the property
abbrev pub NoName : (List ℕ → Type 0) → Type 0
NoName P = (name : List ℕ) → P name → ⊥

-- the name has the property, and no name that is less by bytes has it
pub record IsLeast (P : List ℕ → Type 0) (name : List ℕ) : Type 0 where
  pub has : P name
  pub least : (other : List ℕ) → P other → by_bytes other name ≡ Less → ⊥

-- the fault of a list of files, each only where none before it is one; want of memory is no fault of the files
abbrev pub HasFault : List RuleFile → AssembleFault → Type 0
HasFault files (DuplicateName name) = IsLeast (IsTwice files) name
HasFault files (Unreachable name) = NoName (IsTwice files) × IsLeast (IsCutOff files) name
HasFault files (TooDeep name) = NoName (IsTwice files) × NoName (IsCutOff files) × IsFirstDeep files name
HasFault files (TooMany count) = NoName (IsTwice files) × NoName (IsCutOff files) × NoName (IsFirstDeep files)
    × (excess files ≡ Some count)
HasFault files Memory = ⊥

-- the fault that files have, or that they have none and are those of a policy
abbrev pub IsFirstFault : List RuleFile → Option AssembleFault → Type 0
IsFirstFault files None = IsPolicy files × ((fault : AssembleFault) → HasFault files fault → ⊥)
IsFirstFault files (Some fault) = HasFault files fault

-- files have one fault at most
abbrev pub OneFault : Type 0
OneFault = (files : List RuleFile) (a b : AssembleFault) → HasFault files a → HasFault files b → a ≡ b

-- the least name with the property, or that no name has it
abbrev pub IsFirstName : (List ℕ → Type 0) → Option (List ℕ) → Type 0
IsFirstName P None = NoName P
IsFirstName P (Some name) = IsLeast P name

-- nothing keeps files from being the rules of a policy: no two rules and no two files have one name, each file below
-- the top
-- is named after a rule on a chain, no chain is longer than eight, and there are at most 1,024 rules and as many listed
-- keys
pub record IsFaultless (files : List RuleFile) : Type 0 where
  pub once : NoName (IsTwice files)
  pub hung : NoName (IsCutOff files)
  pub shallow : AreShallow files
  pub few_rules : count_of_rules files ≤ 1024
  pub few_keys : count_of_keys files ≤ 1024

abbrev pub HasNoFault : List RuleFile → Type 0
HasNoFault files = (fault : AssembleFault) → HasFault files fault → ⊥
