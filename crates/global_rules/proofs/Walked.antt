-- A list from a place on, and the rules of a file, one after the other.
use Rattle.std.proofs.Common.{◌≡◌, ◌<◌, ◌≤◌, ◌+◌, ℕ, List, ◌∷◌, Option, Some, None, suc, drop, get_or, length, refl, sym, ap, subst, ◌∙◌, arith}
use Rattle.std.proofs.Math.Seq.{drop-cons}
use Rattle.std.proofs.lemmas.List.{drop_all}
use Rattle.git_object.specs.Repository.{Repository}
use Rattle.rule_files.specs.declared.global_rules.GlobalRule.{GlobalRule}
use Rattle.rule_files.specs.declared.rules.RuleFile.{RuleFile}
use Rattle.global_rules.specs.Whys.{IsFirstWhy, IsKindWhy}
use Rattle.global_rules.specs.declared.whys.Change.{Change}
use Rattle.global_rules.specs.declared.whys.GlobalWhy.{GlobalWhy}

pub split : {X : Type 0} (xs : List X) (i : ℕ) (d x : X) → i < length xs → x ≡ get_or xs i d → drop i xs ≡ x ∷ drop (i + 1) xs
split xs i d x within is =
    let next : i + 1 ≡ suc i = omega arith in
    drop-cons xs i d within ∙ ap (λ y. y ∷ drop (suc i) xs) (sym is) ∙ ap (λ (n : ℕ). x ∷ drop n xs) (sym next)

module _ (r : Repository) (files : List RuleFile) (change : Change) (paths : List (List ℕ)) (rules : List GlobalRule) (i : ℕ) (rule : GlobalRule) (within : i < length rules) (at : rule ≡ get_or rules i rule) where
  pub passed : (first : Option GlobalWhy) → IsKindWhy r files change paths rule rule.kind first → first ≡ None → (why : Option GlobalWhy) → IsFirstWhy r files change paths (drop (i + 1) rules) why → IsFirstWhy r files change paths (drop i rules) why
  passed first told none why rest = subst (λ (xs : List GlobalRule). IsFirstWhy r files change paths xs why) (sym (split rules i rule rule within at)) (None, subst (IsKindWhy r files change paths rule rule.kind) none told, rest)

  stops : (why : GlobalWhy) → IsKindWhy r files change paths rule rule.kind (Some why) → IsFirstWhy r files change paths (drop i rules) (Some why)
  stops why told = subst (λ (xs : List GlobalRule). IsFirstWhy r files change paths xs (Some why)) (sym (split rules i rule rule within at)) (Some why, told, refl)

  pub stopped : (first : Option GlobalWhy) (why : GlobalWhy) → IsKindWhy r files change paths rule rule.kind first → first ≡ Some why → IsFirstWhy r files change paths (drop i rules) (Some why)
  stopped first why told is = stops why (subst (IsKindWhy r files change paths rule rule.kind) is told)

module _ (r : Repository) (files : List RuleFile) (change : Change) (paths : List (List ℕ)) (rules : List GlobalRule) where
  pub none_left : (i : ℕ) → length rules ≤ i → IsFirstWhy r files change paths (drop i rules) None
  none_left i past = subst (λ (xs : List GlobalRule). IsFirstWhy r files change paths xs None) (sym (drop_all i rules past)) refl
