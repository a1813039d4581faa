-- Which values have text in each field that is written as one.
use Rattle.std.specs.Prelude.{◌++◌, All, IsUtf8, List, ℕ}
use Rattle.ref_patterns.specs.Patterns.{Parts, prefix}
use Rattle.root_metadata.specs.declared.persons.Person.{Person}
use Rattle.root_metadata.specs.declared.roots.Role.{Role}
use Rattle.root_metadata.specs.declared.roots.Root.{Root}
use Rattle.rule_files.specs.declared.rules.Rule.{Rule}
use Rattle.rule_files.specs.declared.rules.RuleFile.{RuleFile}

-- a person's name is UTF-8
abbrev pub IsNamed : Person → Type 0
IsNamed person = IsUtf8 person.name

-- the text of a pattern
abbrev pub pattern_text : Parts → List ℕ
pattern_text pattern = prefix pattern.space ++ pattern.glob

abbrev pub HasText : Parts → Type 0
HasText pattern = IsUtf8 (pattern_text pattern)

abbrev pub AreNamed : Role → Type 0
AreNamed role = All IsNamed role.persons

pub record HasRuleTexts (rule : Rule) : Type 0 where
  pub name : IsUtf8 rule.name
  pub patterns : All HasText rule.patterns
  pub persons : All IsNamed rule.persons

pub record HasRootTexts (root : Root) : Type 0 where
  pub persons : All IsNamed root.persons
  pub first : AreNamed root.root
  pub targets : AreNamed root.targets

pub record HasFileTexts (file : RuleFile) : Type 0 where
  pub name : IsUtf8 file.name
  pub persons : All IsNamed file.persons
  pub rules : All HasRuleTexts file.rules
