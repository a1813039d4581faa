-- Files and the links between them.
use Rattle.std.specs.Prelude.{◌≡◌, ◌<◌, ◌^◌, ℕ, Bool, List, [], length, map, slice_get, Option, Some, None}
use Rattle.std.specs.Prelude.{option_and_then, if◌then◌else◌}
use Rattle.std.specs.Option.{option_map_or}
use Rattle.std.specs.List.{AllByRecursion, position_from}
use Rattle.std.specs.Str.{bytes_eq}
use Rattle.rule_files.specs.declared.rules.Rule.{Rule}
use Rattle.rule_files.specs.declared.rules.RuleFile.{RuleFile}
use Rattle.rule_delegations.specs.declared.places.RuleRef.{RuleRef}
use Rattle.rule_delegations.specs.Chains.{IsChain, IsNamed, rule_at}

-- the place of the first file of the name
abbrev pub place_named : List RuleFile → List ℕ → Option ℕ
place_named files name = position_from (λ file. bytes_eq name file.name) 0 files

-- the place that was found, or this one where the test passes
abbrev pub or_place : Option ℕ → Bool → ℕ → Option ℕ
or_place None passes at = (if passes then Some at else None)
or_place (Some found) passes at = Some found

-- the places of the files below a file's rules
abbrev pub links_of : List RuleFile → RuleFile → List (Option ℕ)
links_of files file = map (λ rule. place_named files rule.name) file.rules

-- the place of the file below the rule at a place
abbrev pub link_at : List RuleFile → RuleRef → Option ℕ
link_at files place = option_and_then (λ rule. place_named files rule.name) (rule_at files place)

-- the rules of the file at a place, none where no file is
abbrev pub rules_of : List RuleFile → ℕ → List Rule
rules_of files file = option_map_or (λ found. found.rules) (slice_get files file) []

-- a file whose rules and keys are numbered in 32 bits
pub record IsShort (file : RuleFile) : Type 0 where
  pub rules : length file.rules < 2 ^ 32
  pub keys : length file.keys < 2 ^ 32

-- places are numbered in 32 bits
pub record AreFew (files : List RuleFile) : Type 0 where
  pub files_are : length files < 2 ^ 32
  pub each : AllByRecursion IsShort files

-- what is kept beside the files are the places below their rules
pub record IsForest (files : List RuleFile) (below : List (List (Option ℕ))) : Type 0 where
  pub linked : below ≡ map (links_of files) files
  pub few : AreFew files

-- no two files have one name
abbrev pub AreDistinct : List RuleFile → Type 0
AreDistinct files = (i j : ℕ) (name : List ℕ) → IsNamed files i name → IsNamed files j name → i ≡ j

-- no chain is longer than eight
abbrev pub AreShallow : List RuleFile → Type 0
AreShallow files = (chain : List RuleRef) → IsChain files chain → length chain < 9

-- the files of a policy's rules
pub record IsPolicy (files : List RuleFile) : Type 0 where
  pub distinct : AreDistinct files
  pub shallow : AreShallow files
