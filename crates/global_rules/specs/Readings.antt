-- What holds of a change that breaks no global rule, read aloud.
use Rattle.std.specs.Prelude.{◌≡◌, ◌≤◌, ℕ, true, List}
use Rattle.std.specs.List.{AllByRecursion, list_any}
use Rattle.git_object.specs.Repository.{Repository}
use Rattle.global_rules.specs.Targets.{IsDescentIn}
use Rattle.global_rules.specs.declared.descents.Descent.TheVariants.{Yes}
use Rattle.rule_files.specs.declared.rules.RuleFile.{RuleFile}
use Rattle.rule_delegations.specs.Reached.{Name, pattern_matches}
use Rattle.entry_rules.specs.Meeting.{file_name, git_name}
use Rattle.rule_files.specs.declared.global_rules.GlobalKind.{GlobalKind}
use Rattle.rule_files.specs.declared.global_rules.GlobalKind.TheVariants.{NoRewind, Threshold}
use Rattle.rule_files.specs.declared.global_rules.GlobalRule.{GlobalRule}
use Rattle.global_rules.specs.Greatest.{greatest}
use Rattle.global_rules.specs.declared.whys.Change.{Change}

-- where the rule speaks of the name, a rule that the name reaches has so many persons who signed
abbrev pub IsEnough : List RuleFile → List (List ℕ) → GlobalRule → ℕ → Name → Type 0
IsEnough files signers rule need name =
    list_any (pattern_matches name) rule.paths ≡ true → need ≤ greatest files name signers

module _ (r : Repository) (files : List RuleFile) (change : Change) (paths : List (List ℕ)) where
  -- enough signed for the reference and for each path that changed
  pub record IsSignedFor (rule : GlobalRule) (need : ℕ) : Type 0 where
    pub reference : IsEnough files change.signers rule need (git_name change.name)
    pub each : AllByRecursion (λ path. IsEnough files change.signers rule need (file_name path)) paths

  -- the target descends from where the reference stood, if the rule speaks of it
  abbrev pub GoesOn : GlobalRule → Type 0
  GoesOn rule = list_any (pattern_matches (git_name change.name)) rule.paths ≡ true
      → IsDescentIn 1000000 r change.target change.from Yes

  abbrev pub IsKeptBy : GlobalRule → GlobalKind → Type 0
  IsKeptBy rule (Threshold need) = IsSignedFor rule need
  IsKeptBy rule NoRewind = GoesOn rule

  abbrev pub IsKept : GlobalRule → Type 0
  IsKept rule = IsKeptBy rule rule.kind
