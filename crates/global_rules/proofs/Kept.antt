-- What holds of a change that breaks no rule.
use Rattle.std.proofs.Common.{◌≡◌, ◌≤◌, ◌&&◌, ℕ, Bool, true, false, cond, List, [], ◌∷◌, Option, Some, None, refl, ap, ◌∙◌, ltb-false}
use Rattle.std.specs.Prelude.{nat_lt}
use Rattle.std.specs.List.{AllByRecursion}
use Rattle.git_object.specs.Repository.{Repository}
use Rattle.global_rules.specs.Targets.{IsDescentIn}
use Rattle.global_rules.specs.declared.descents.Descent.{Descent}
use Rattle.global_rules.specs.declared.descents.Descent.TheVariants as descent
use Rattle.root_metadata.specs.Judged.{or_next}
use Rattle.rule_files.specs.declared.rules.RuleFile.{RuleFile}
use Rattle.rule_delegations.specs.Reached.{Name}
use Rattle.entry_rules.specs.Meeting.{file_name, git_name}
use Rattle.rule_files.specs.declared.global_rules.GlobalKind.{GlobalKind}
use Rattle.rule_files.specs.declared.global_rules.GlobalKind.TheVariants.{NoRewind, Threshold}
use Rattle.rule_files.specs.declared.global_rules.GlobalRule.{GlobalRule}
use Rattle.global_rules.specs.Greatest.{greatest}
use Rattle.global_rules.specs.Readings.{IsEnough, IsKept, IsKeptBy}
use Rattle.global_rules.specs.Thresholds.{first_short, short_at, words_of}
use Rattle.global_rules.specs.Whys.{IsFirstWhy, IsKindWhy, IsOrNext, rewind_why}
use Rattle.global_rules.specs.declared.whys.Change.{Change}
use Rattle.global_rules.specs.declared.whys.GlobalWhy.{GlobalWhy}
use Rattle.global_rules.specs.declared.whys.GlobalWhy.TheVariants as why

none_first : (a b : Option GlobalWhy) → None ≡ or_next a b → (None ≡ a) × (None ≡ b)
none_first None b is = (refl, is)
none_first (Some w) b is = absurd (cc is)

module _ (files : List RuleFile) (signers : List (List ℕ)) (rule : GlobalRule) (need : ℕ) where
  enough : (name : Name) → None ≡ short_at files signers rule need name → IsEnough files signers rule need name
  enough name is spoken = by_test (nat_lt (greatest files name signers) need) refl here where
    told : GlobalWhy
    told = why.Threshold rule.name (words_of name) (greatest files name signers) need

    here : None ≡ cond (nat_lt (greatest files name signers) need) (Some told) None
    here = is ∙ ap (λ (b : Bool). cond (b && nat_lt (greatest files name signers) need) (Some told) None) spoken

    by_test : (b : Bool) → nat_lt (greatest files name signers) need ≡ b → None ≡ cond b (Some told) None → need ≤ greatest files name signers
    by_test true less none = absurd (cc none)
    by_test false less none = ltb-false (greatest files name signers) need less

  each_enough : (paths : List (List ℕ)) → None ≡ first_short files signers rule need paths → AllByRecursion (λ path. IsEnough files signers rule need (file_name path)) paths
  each_enough [] is = tt
  each_enough (path ∷ paths) is =
      let parts = none_first (short_at files signers rule need (file_name path)) (first_short files signers rule need paths) is in
      (enough (file_name path) parts.0, each_enough paths parts.1)

module _ (r : Repository) (files : List RuleFile) (change : Change) (paths : List (List ℕ)) where
  goes_on : (rule : GlobalRule) (d : Descent) → IsDescentIn 1000000 r change.target change.from d → None ≡ rewind_why rule d → IsDescentIn 1000000 r change.target change.from descent.Yes
  goes_on rule descent.Yes is none = is
  goes_on rule descent.No is none = absurd (cc none)
  goes_on rule descent.TooFar is none = absurd (cc none)

  kept_kind : (rule : GlobalRule) (kind : GlobalKind) → IsKindWhy r files change paths rule kind None → IsKeptBy r files change paths rule kind
  kept_kind rule (Threshold need) is =
      let parts = none_first (short_at files change.signers rule need (git_name change.name)) (first_short files change.signers rule need paths) is in
      record {
        reference = enough files change.signers rule need (git_name change.name) parts.0;
        each = each_enough files change.signers rule need paths parts.1;
      }
  kept_kind rule NoRewind is = λ spoken. let by = is.spoken_of spoken in goes_on rule by.descent by.is by.told

  step : (rule : GlobalRule) (IsNext : Option GlobalWhy → Type 0) (first : Option GlobalWhy) → IsKindWhy r files change paths rule rule.kind first → IsOrNext first IsNext None → IsKindWhy r files change paths rule rule.kind None × IsNext None
  step rule IsNext None is next = (is, next)
  step rule IsNext (Some w) is next = absurd (cc next)

  pub all_kept : (rules : List GlobalRule) → IsFirstWhy r files change paths rules None → AllByRecursion (IsKept r files change paths) rules
  all_kept [] is = tt
  all_kept (rule ∷ rules) is =
      let parts = step rule (IsFirstWhy r files change paths rules) is.0 is.1 is.2 in
      (kept_kind rule rule.kind parts.0, all_kept rules parts.1)
