-- Why a change breaks the global rules of a policy.
use Rattle.std.specs.Prelude.{◌≡◌, ◌&&◌, ℕ, true, false, [], ◌∷◌, List, Option, Some, None}
use Rattle.std.specs.List.{list_any}
use Rattle.git_object.specs.Repository.{Repository}
use Rattle.tree_paths.specs.Changes.{AreChanged}
use Rattle.tree_paths.specs.Repositories.{readings_of}
use Rattle.tree_paths.specs.States.{Ended, is_sound, map_at, walk_of}
use Rattle.global_rules.specs.Targets.{IsDescentIn}
use Rattle.global_rules.specs.declared.descents.Descent.{Descent}
use Rattle.global_rules.specs.declared.descents.Descent.TheVariants as descent
use Rattle.rule_files.specs.declared.rules.RuleFile.{RuleFile}
use Rattle.rule_delegations.specs.Reached.{pattern_matches}
use Rattle.entry_rules.specs.Meeting.{git_name}
use Rattle.rule_files.specs.declared.global_rules.GlobalKind.{GlobalKind}
use Rattle.rule_files.specs.declared.global_rules.GlobalKind.TheVariants as kind
use Rattle.rule_files.specs.declared.global_rules.GlobalRule.{GlobalRule}
use Rattle.global_rules.specs.Thresholds.{threshold_why}
use Rattle.global_rules.specs.declared.found_files.FoundFile.{FoundFile}
use Rattle.global_rules.specs.declared.found_files.FoundFile.TheVariants as found
use Rattle.global_rules.specs.declared.whys.Change.{Change}
use Rattle.global_rules.specs.declared.whys.GlobalWhy.{GlobalWhy}
use Rattle.global_rules.specs.declared.whys.GlobalWhy.TheVariants.{BadFile, Rewound, TooFar}

-- ---- what changed

-- the paths at which two states differ, in the order of their bytes; none where one of the two is broken
pub record AreChangedPaths (s t : Ended) (paths : List (List ℕ)) : Type 0 where
  pub sound : (is_sound s && is_sound t) ≡ true → AreChanged (map_at s) (map_at t) paths
  pub broken : (is_sound s && is_sound t) ≡ false → paths ≡ []

-- ---- going back

abbrev pub rewind_why : GlobalRule → Descent → Option GlobalWhy
rewind_why rule descent.Yes = None
rewind_why rule descent.No = Some (Rewound rule.name)
rewind_why rule descent.TooFar = Some (TooFar rule.name)

-- by whether the target has the commit of where the reference stood among its first 1,000,000 ancestors
pub record IsDescentWhy (r : Repository) (rule : GlobalRule) (change : Change) (why : Option GlobalWhy) : Type 0 where
  pub descent : Descent
  pub is : IsDescentIn 1000000 r change.target change.from descent
  pub told : why ≡ rewind_why rule descent

-- a reference of which the rule does not speak may go back
pub record IsRewindWhy (r : Repository) (rule : GlobalRule) (change : Change) (why : Option GlobalWhy) : Type 0 where
  pub spoken_of : list_any (pattern_matches (git_name change.name)) rule.paths ≡ true → IsDescentWhy r rule change why
  pub other : list_any (pattern_matches (git_name change.name)) rule.paths ≡ false → why ≡ None

-- ---- the rules of a file

-- that is told first, or else what is told then
abbrev pub IsOrNext : Option GlobalWhy → (Option GlobalWhy → Type 0) → Option GlobalWhy → Type 0
IsOrNext None IsNext why = IsNext why
IsOrNext (Some first) IsNext why = why ≡ Some first

module _ (r : Repository) (files : List RuleFile) (change : Change) (paths : List (List ℕ)) where
  -- why the change breaks a rule that asks for this
  abbrev pub IsKindWhy : GlobalRule → GlobalKind → Option GlobalWhy → Type 0
  IsKindWhy rule (kind.Threshold need) why = why ≡ threshold_why files rule need change paths
  IsKindWhy rule kind.NoRewind why = IsRewindWhy r rule change why

  -- why it breaks the first of the rules that it does
  abbrev pub IsFirstWhy : List GlobalRule → Option GlobalWhy → Type 0
  IsFirstWhy [] why = why ≡ None
  IsFirstWhy (rule ∷ rules) why = (first : Option GlobalWhy) × IsKindWhy rule rule.kind first
      × IsOrNext first (IsFirstWhy rules) why

-- of what was found of the file, under a policy with these rule files
abbrev pub IsFileWhy : Repository → List RuleFile → Change → FoundFile → Option GlobalWhy → Type 0
IsFileWhy r files change found.Absent why = why ≡ None
IsFileWhy r files change found.Bad why = why ≡ Some BadFile
IsFileWhy r files change (found.There file) why = (paths : List (List ℕ))
    × AreChangedPaths (walk_of (readings_of r) change.from) (walk_of (readings_of r) change.target) paths
    × IsFirstWhy r files change paths file.rules why
