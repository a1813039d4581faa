-- The rule of a name, and the file that holds it, where no name stands twice.
use Rattle.std.proofs.Common.{◌≡◌, ◌+◌, ◌≤◌, ◌<◌, ◌++◌, ℕ, Bool, true, false, cond, List, [], ◌∷◌, Option, Some, None, refl, sym, ap, ◌∙◌, inl, inr, arith, map}
use Rattle.std.specs.Prelude.{is_some}
use Rattle.std.specs.List.{find}
use Rattle.std.specs.Str.{bytes_eq}
use Rattle.std.proofs.lemmas.Bool.{false≢true}
use Rattle.std.proofs.lemmas.List.Sums.{sum_by-append}
use Rattle.std.proofs.lemmas.Slice.Eq.{bytes_eq-Decides}
use Rattle.rule_files.specs.declared.rules.Rule.{Rule}
use Rattle.rule_files.specs.declared.rules.RuleFile.{RuleFile}
use Rattle.tree_paths.specs.Leading.{Among}
use Rattle.rule_delegations.specs.Assembling.{rule_names, times}
use Rattle.policy_reading.specs.Valid.{IsHolder}
use Rattle.policy_reading.specs.Validity.{holder_of, holds, rule_named}

pub record IsFound {X : Type 0} (test : X → Bool) (xs : List X) (x : X) : Type 0 where
  pub there : Among x xs
  pub passes : test x ≡ true

pub found_there : {X : Type 0} (test : X → Bool) (xs : List X) (x : X) → find test xs ≡ Some x → IsFound test xs x
found_there test [] x e = absurd (let clash : None ≡ Some x = e in cc)
found_there test (y ∷ ys) x e = by_test (test y) refl e (found_there test ys x) where
  by_test : (b : Bool) → test y ≡ b → cond b (Some y) (find test ys) ≡ Some x → (find test ys ≡ Some x → IsFound test ys x) → IsFound test (y ∷ ys) x
  by_test true is e later = let same : y ≡ x = cc in record { there = inl same; passes = ap test (sym same) ∙ is }
  by_test false is e later = let rest = later e in record { there = inr rest.there; passes = rest.passes }

-- an item that passes is found, where each that passes is the same
pub only_found : {X : Type 0} (test : X → Bool) (xs : List X) (x : X) → Among x xs → test x ≡ true → ((y : X) → Among y xs → test y ≡ true → y ≡ x) → find test xs ≡ Some x
only_found test [] x there passes only = absurd there
only_found {X} test (y ∷ ys) x there passes only = by_test (test y) refl (λ h. only_found test ys x h passes (λ z late is. only z (inr late) is)) where
  by_test : (b : Bool) → test y ≡ b → (Among x ys → find test ys ≡ Some x) → cond b (Some y) (find test ys) ≡ Some x
  by_test true is later = ap Some (only y (inl refl) is)
  by_test false is later = elim there [ inl here ↦ absurd (false≢true (sym is ∙ ap test here ∙ passes)) | inr late ↦ later late ]

-- ---- how often a name stands

times_append : (name : List ℕ) (xs ys : List (List ℕ)) → times name (xs ++ ys) ≡ times name xs + times name ys
times_append name xs ys = sum_by-append (λ x. cond (bytes_eq name x) 1 0) xs ys

times_one : (name x : List ℕ) (xs : List (List ℕ)) → name ≡ x → times name (x ∷ xs) ≡ 1 + times name xs
times_one name x xs same = times_append name (x ∷ []) xs ∙ ap (λ (n : ℕ). n + times name xs) (by_test (bytes_eq name x) ((bytes_eq-Decides name x).1 same)) where
  by_test : (b : Bool) → b ≡ true → 0 + cond b 1 0 ≡ 1
  by_test true is = refl
  by_test false is = absurd (false≢true is)

times_rest : (name x : List ℕ) (xs : List (List ℕ)) → times name xs ≤ times name (x ∷ xs)
times_rest name x xs = let e = times_append name (x ∷ []) xs in omega (arith, e)

abbrev names_in : List Rule → List (List ℕ)
names_in rules = map (λ rule. rule.name) rules

times_rule : (name : List ℕ) (rules : List Rule) (rule : Rule) → Among rule rules → rule.name ≡ name → 1 ≤ times name (names_in rules)
times_rule name [] rule there named = absurd there
times_rule name (x ∷ xs) rule there named = elim there [
  | inl here ↦ let e = times_one name x.name (names_in xs) (sym (ap (λ (y : Rule). y.name) here ∙ named)) in omega (arith, e)
  | inr later ↦ let rest = times_rule name xs rule later named in let e = times_rest name x.name (names_in xs) in omega (arith, rest, e)
]

times_file : (name : List ℕ) (files : List RuleFile) (file : RuleFile) → Among file files → times name (names_in file.rules) ≤ times name (rule_names files)
times_file name [] file there = absurd there
times_file name (x ∷ xs) file there =
    let parts = times_append name (names_in x.rules) (rule_names xs) in
    elim there [
      | inl here ↦ let e = ap (λ (f : RuleFile). times name (names_in f.rules)) here in omega (arith, e, parts)
      | inr later ↦ let rest = times_file name xs file later in omega (arith, rest, parts)
    ]

-- ---- the one rule of a name

one_rule : (name : List ℕ) (rules : List Rule) (a b : Rule) → Among a rules → Among b rules → a.name ≡ name → b.name ≡ name → times name (names_in rules) < 2 → a ≡ b
one_rule name [] a b there too first second few = absurd there
one_rule name (x ∷ xs) a b there too first second few = elim there [
  | inl here ↦ elim too [
    | inl same ↦ sym here ∙ same
    | inr later ↦
        let more = times_rule name xs b later second in
        let e = times_one name x.name (names_in xs) (sym (ap (λ (y : Rule). y.name) here ∙ first)) in
        absurd (omega (arith, more, e, few))
  ]
  | inr later ↦ elim too [
    | inl same ↦
        let more = times_rule name xs a later first in
        let e = times_one name x.name (names_in xs) (sym (ap (λ (y : Rule). y.name) same ∙ second)) in
        absurd (omega (arith, more, e, few))
    | inr last ↦ let e = times_rest name x.name (names_in xs) in one_rule name xs a b later last first second (omega (arith, e, few))
  ]
]

one_holder : (name : List ℕ) (files : List RuleFile) (f g : RuleFile) (a b : Rule) → IsHolder files name f a → IsHolder files name g b → times name (rule_names files) < 2 → f ≡ g
one_holder name [] f g a b first second few = absurd first.there
one_holder name (x ∷ xs) f g a b first second few =
    let parts = times_append name (names_in x.rules) (rule_names xs) in
    let one = times_rule name f.rules a first.held first.named in
    let two = times_rule name g.rules b second.held second.named in
    elim first.there [
      | inl here ↦ elim second.there [
        | inl same ↦ sym here ∙ same
        | inr later ↦
            let more = times_file name xs g later in
            let e = ap (λ (y : RuleFile). times name (names_in y.rules)) here in
            absurd (omega (arith, one, two, more, e, parts, few))
      ]
      | inr later ↦ elim second.there [
        | inl same ↦
            let more = times_file name xs f later in
            let e = ap (λ (y : RuleFile). times name (names_in y.rules)) same in
            absurd (omega (arith, one, two, more, e, parts, few))
        | inr last ↦
            one_holder name xs f g a b (record { there = later; held = first.held; named = first.named }) (record { there = last; held = second.held; named = second.named })
            (omega (arith, parts, few))
      ]
    ]

module _ (files : List RuleFile) (name : List ℕ) where
  is_named : (rule : Rule) → bytes_eq rule.name name ≡ true → rule.name ≡ name
  is_named rule = (bytes_eq-Decides rule.name name).0

  named_rule : (file : RuleFile) (rule : Rule) → rule_named name file ≡ Some rule → IsFound (λ (x : Rule). bytes_eq x.name name) file.rules rule
  named_rule file rule e = found_there (λ (x : Rule). bytes_eq x.name name) file.rules rule e

  holds_rule : (file : RuleFile) → holds name file ≡ true → (rule : Rule) × (rule_named name file ≡ Some rule)
  holds_rule file e = by_rule (rule_named name file) refl e where
    by_rule : (found : Option Rule) → rule_named name file ≡ found → is_some found ≡ true → (rule : Rule) × (rule_named name file ≡ Some rule)
    by_rule None is f = absurd (false≢true f)
    by_rule (Some rule) is f = (rule, is)

  -- what is found holds a rule of the name
  pub found_holder : (holder : RuleFile) (rule : Rule) → holder_of files name ≡ Some holder → rule_named name holder ≡ Some rule → IsHolder files name holder rule
  found_holder holder rule first second =
      let file = found_there (holds name) files holder first in
      let one = named_rule holder rule second in
      record { there = file.there; held = one.there; named = is_named rule one.passes }

  module _ (few : times name (rule_names files) < 2) where
    rule_found : (holder : RuleFile) (rule : Rule) → IsHolder files name holder rule → rule_named name holder ≡ Some rule
    rule_found holder rule is =
        let less = times_file name files holder is.there in
        only_found (λ (x : Rule). bytes_eq x.name name) holder.rules rule is.held ((bytes_eq-Decides rule.name name).1 is.named)
        (λ other there passes. one_rule name holder.rules other rule there is.held (is_named other passes) is.named (omega (arith, less, few)))

    pub holder_found : (holder : RuleFile) (rule : Rule) → IsHolder files name holder rule → (holder_of files name ≡ Some holder) × (rule_named name holder ≡ Some rule)
    holder_found holder rule is =
        let named = rule_found holder rule is in (
          only_found (holds name) files holder is.there (ap is_some named)
              (λ other there passes.
              let found = holds_rule other passes in
              let one = named_rule other found.0 found.1 in
              one_holder name files other holder found.0 rule (record { there = there; held = one.there; named = is_named found.0 one.passes }) is few),
          named,
        )
