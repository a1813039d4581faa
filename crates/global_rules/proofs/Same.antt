-- There is one why at most.
use Rattle.std.proofs.Common.{◌≡◌, ◌&&◌, ◌||◌, ℕ, Bool, true, false, List, [], ◌∷◌, Option, Some, None, refl, ap, sym, subst, ◌∙◌, inl, inr}
use Rattle.std.specs.Prelude.{◌⊎◌}
use Rattle.std.specs.List.{AllByRecursion, list_any}
use Rattle.std.specs.Str.{bytes_eq}
use Rattle.std.specs.Ordering.{is_gt, ordering_reverse}
use Rattle.std.specs.declared.cmp.Ordering.TheVariants.{Less}
use Rattle.std.proofs.lemmas.Bool.{cases_Bool, false≢true, true≢false}
use Rattle.std.proofs.lemmas.Cmp.{nat_list_cmp_total}
use Rattle.std.proofs.lemmas.Slice.Eq.{bytes_eq-Decides}
use Rattle.octets.specs.BytesMap.{BytesMap, by_bytes}
use Rattle.git_object.specs.Repository.{Repository}
use Rattle.tree_paths.specs.Changes.{AreChanged, AreRising, has_path}
use Rattle.tree_paths.specs.Repositories.{readings_of}
use Rattle.tree_paths.specs.States.{Ended, PathValue, is_sound, root_of, walk_of}
use Rattle.tree_paths.specs.declared.heads.Peeled.{Peeled}
use Rattle.tree_paths.specs.declared.heads.Peeled.TheVariants.{At, Bad, Nothing}
use Rattle.global_rules.specs.Commits.{commit_parents}
use Rattle.global_rules.specs.Order.{Parents}
use Rattle.global_rules.specs.Targets.{IsDescentOf}
use Rattle.global_rules.specs.declared.descents.Descent.{Descent}
use Rattle.global_rules.proofs.Order.{one}
use Rattle.rule_files.specs.declared.rules.RuleFile.{RuleFile}
use Rattle.rule_delegations.specs.Reached.{pattern_matches}
use Rattle.entry_rules.specs.Meeting.{git_name}
use Rattle.rule_files.specs.declared.global_rules.GlobalKind.{GlobalKind}
use Rattle.rule_files.specs.declared.global_rules.GlobalKind.TheVariants.{NoRewind, Threshold}
use Rattle.rule_files.specs.declared.global_rules.GlobalRule.{GlobalRule}
use Rattle.global_rules.specs.Whys.{AreChangedPaths, IsFileWhy, IsFirstWhy, IsKindWhy, IsOrNext, IsRewindWhy, rewind_why}
use Rattle.global_rules.specs.declared.found_files.FoundFile.{FoundFile}
use Rattle.global_rules.specs.declared.found_files.FoundFile.TheVariants as found
use Rattle.global_rules.specs.declared.whys.Change.{Change}
use Rattle.global_rules.specs.declared.whys.GlobalWhy.{GlobalWhy}

-- ---- one list of paths

turned : (p q : List ℕ) → by_bytes p q ≡ Less → by_bytes q p ≡ Less → ⊥
turned p q a b = true≢false (sym (ap is_gt (nat_list_cmp_total.antisymm q p ∙ ap ordering_reverse a)) ∙ ap is_gt b)

of_all : (P : List ℕ → Type 0) (xs : List (List ℕ)) (x : List ℕ) → AllByRecursion P xs → has_path xs x ≡ true → P x
of_all P [] x all has = absurd (false≢true has)
of_all P (y ∷ ys) x all has = by_test (bytes_eq y x) refl has (of_all P ys x all.1) where
  by_test : (b : Bool) → bytes_eq y x ≡ b → (b || has_path ys x) ≡ true → (has_path ys x ≡ true → P x) → P x
  by_test true is h later = subst P ((bytes_eq-Decides y x).0 is) all.0
  by_test false is h later = later h

first_has : (x : List ℕ) (xs : List (List ℕ)) → has_path (x ∷ xs) x ≡ true
first_has x xs = ap (λ (b : Bool). b || has_path xs x) ((bytes_eq-Decides x x).1 refl)

later_has : (y x : List ℕ) (xs : List (List ℕ)) → has_path xs x ≡ true → has_path (y ∷ xs) x ≡ true
later_has y x xs has = by_test (bytes_eq y x) where
  by_test : (b : Bool) → (b || has_path xs x) ≡ true
  by_test true = refl
  by_test false = has

first_or : (y x : List ℕ) (xs : List (List ℕ)) → has_path (y ∷ xs) x ≡ true → (y ≡ x) ⊎ (has_path xs x ≡ true)
first_or y x xs has = by_test (bytes_eq y x) refl has where
  by_test : (b : Bool) → bytes_eq y x ≡ b → (b || has_path xs x) ≡ true → (y ≡ x) ⊎ (has_path xs x ≡ true)
  by_test true is h = inl ((bytes_eq-Decides y x).0 is)
  by_test false is h = inr h

abbrev AreAlso : List (List ℕ) → List (List ℕ) → Type 0
AreAlso ps qs = (x : List ℕ) → has_path ps x ≡ true → has_path qs x ≡ true

-- the first of one list is the first of the other
same_first : (p q : List ℕ) (ps qs : List (List ℕ)) → AreRising (p ∷ ps) → AreRising (q ∷ qs) → AreAlso (p ∷ ps) (q ∷ qs) → AreAlso (q ∷ qs) (p ∷ ps) → p ≡ q
same_first p q ps qs rising other to back = elim (first_or q p qs (to p (first_has p ps))) [
  | inl same ↦ sym same
  | inr later ↦ elim (first_or p q ps (back q (first_has q qs))) [
    | inl same ↦ same
    | inr behind ↦ absurd (turned p q (of_all (λ x. by_bytes p x ≡ Less) ps q rising.0 behind) (of_all (λ x. by_bytes q x ≡ Less) qs p other.0 later))
  ]
]

rest_also : (p : List ℕ) (ps qs : List (List ℕ)) → AreRising (p ∷ ps) → AreAlso (p ∷ ps) (p ∷ qs) → AreAlso ps qs
rest_also p ps qs rising to x has = elim (first_or p x qs (to x (later_has p x ps has))) [
  | inl same ↦ absurd (let less : by_bytes p p ≡ Less = subst (λ (y : List ℕ). by_bytes p y ≡ Less) (sym same) (of_all (λ y. by_bytes p y ≡ Less) ps x rising.0 has) in turned p p less less)
  | inr later ↦ later
]

same_rising : (ps qs : List (List ℕ)) → AreRising ps → AreRising qs → AreAlso ps qs → AreAlso qs ps → ps ≡ qs
same_rising [] [] rising other to back = refl
same_rising [] (q ∷ qs) rising other to back = absurd (false≢true (back q (first_has q qs)))
same_rising (p ∷ ps) [] rising other to back = absurd (false≢true (to p (first_has p ps)))
same_rising (p ∷ ps) (q ∷ qs) rising other to back =
    let first : p ≡ q = same_first p q ps qs rising other to back in
    let there : AreAlso (p ∷ ps) (p ∷ qs) = subst (λ (x : List ℕ). AreAlso (p ∷ ps) (x ∷ qs)) (sym first) to in
    let here : AreAlso (p ∷ qs) (p ∷ ps) = subst (λ (x : List ℕ). AreAlso (x ∷ qs) (p ∷ ps)) (sym first) back in
    let also : AreRising (p ∷ qs) = subst (λ (x : List ℕ). AreRising (x ∷ qs)) (sym first) other in
    let rest : ps ≡ qs = same_rising ps qs rising.1 other.1 (rest_also p ps qs rising there) (rest_also p qs ps also here) in
    λ i. first i ∷ rest i

same_changed : (a b : BytesMap PathValue) (ps qs : List (List ℕ)) → AreChanged a b ps → AreChanged a b qs → ps ≡ qs
same_changed a b ps qs is other = same_rising ps qs is.rising other.rising
    (λ x has. (other.changed x).1 ((is.changed x).0 has)) (λ x has. (is.changed x).1 ((other.changed x).0 has))

same_paths : (s t : Ended) (ps qs : List (List ℕ)) → AreChangedPaths s t ps → AreChangedPaths s t qs → ps ≡ qs
same_paths s t ps qs is other = elim (cases_Bool (is_sound s && is_sound t)) [
  | inl sound ↦ same_changed _ _ ps qs (is.sound sound) (other.sound sound)
  | inr broken ↦ is.broken broken ∙ sym (other.broken broken)
]

-- ---- one descent

descent_of : (most : ℕ) (parents : Parents) (target from : Peeled) (a b : Descent) → IsDescentOf most parents target from a → IsDescentOf most parents target from b → a ≡ b
descent_of most parents target Nothing a b is other = is ∙ sym other
descent_of most parents target (Bad id) a b is other = is ∙ sym other
descent_of most parents Nothing (At from tree) a b is other = is ∙ sym other
descent_of most parents (Bad id) (At from tree) a b is other = is ∙ sym other
descent_of most parents (At commit root) (At from tree) a b is other = one most parents commit from a b is other

-- ---- one why

module _ (r : Repository) (files : List RuleFile) (change : Change) where
  rewind_same : (rule : GlobalRule) (a b : Option GlobalWhy) → IsRewindWhy r rule change a → IsRewindWhy r rule change b → a ≡ b
  rewind_same rule a b is other = elim (cases_Bool (list_any (pattern_matches (git_name change.name)) rule.paths)) [
    | inl spoken ↦
        let first = is.spoken_of spoken in
        let second = other.spoken_of spoken in
        let same = descent_of 1000000 (commit_parents r) (root_of (readings_of r).heads change.target) (root_of (readings_of r).heads change.from) first.descent second.descent first.is second.is in
        first.told ∙ ap (rewind_why rule) same ∙ sym second.told
    | inr unspoken ↦ is.other unspoken ∙ sym (other.other unspoken)
  ]

  module _ (paths : List (List ℕ)) where
    kind_same : (rule : GlobalRule) (kind : GlobalKind) (a b : Option GlobalWhy) → IsKindWhy r files change paths rule kind a → IsKindWhy r files change paths rule kind b → a ≡ b
    kind_same rule (Threshold need) a b is other = is ∙ sym other
    kind_same rule NoRewind a b is other = rewind_same rule a b is other

    next_same : (IsNext : Option GlobalWhy → Type 0) → ((a b : Option GlobalWhy) → IsNext a → IsNext b → a ≡ b) → (first a b : Option GlobalWhy) → IsOrNext first IsNext a → IsOrNext first IsNext b → a ≡ b
    next_same IsNext same None a b is other = same a b is other
    next_same IsNext same (Some w) a b is other = is ∙ sym other

    first_same : (rules : List GlobalRule) (a b : Option GlobalWhy) → IsFirstWhy r files change paths rules a → IsFirstWhy r files change paths rules b → a ≡ b
    first_same [] a b is other = is ∙ sym other
    first_same (rule ∷ rules) a b is other =
        let same : is.0 ≡ other.0 = kind_same rule rule.kind is.0 other.0 is.1 other.1 in
        next_same (IsFirstWhy r files change paths rules) (first_same rules) other.0 a b
        (subst (λ (f : Option GlobalWhy). IsOrNext f (IsFirstWhy r files change paths rules) a) same is.2) other.2

  pub one_why : (file : FoundFile) (a b : Option GlobalWhy) → IsFileWhy r files change file a → IsFileWhy r files change file b → a ≡ b
  one_why found.Absent a b is other = is ∙ sym other
  one_why found.Bad a b is other = is ∙ sym other
  one_why (found.There file) a b is other =
      let s = walk_of (readings_of r) change.from in
      let t = walk_of (readings_of r) change.target in
      let paths : is.0 ≡ other.0 = same_paths s t is.0 other.0 is.1 other.1 in
      first_same other.0 file.rules a b (subst (λ (ps : List (List ℕ)). IsFirstWhy r files change ps file.rules a) paths is.2) other.2
