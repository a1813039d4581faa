-- Rule files without a fault.
use Rattle.std.proofs.Common.{◌≡◌, ◌≤◌, ℕ, Bool, true, false, cond, List, [], ◌∷◌, Option, Some, None, refl, sym, ap, ◌∙◌, inl, inr, arith}
use Rattle.std.specs.Prelude.{◌↔◌, nat_lt, if◌then◌else◌}
use Rattle.std.proofs.lemmas.Bool.{cases_lt}
use Rattle.std.proofs.lemmas.Bool.Decides.{nat_tests}
use Rattle.rule_files.specs.declared.rules.RuleFile.{RuleFile}
use Rattle.rule_delegations.specs.Assembling.{HasNoFault, IsCutOff, IsDeep, IsFaultless, IsFirstFault, IsFirstName, IsTwice, NoName, count_of_keys, count_of_rules, excess}
use Rattle.rule_delegations.specs.Forests.{AreShallow}
use Rattle.rule_delegations.specs.Marks.{AreMarked}
use Rattle.rule_delegations.specs.declared.assembling.AssembleFault.{AssembleFault}
use Rattle.rule_delegations.specs.declared.assembling.AssembleFault.TheVariants.{DuplicateName, Unreachable, TooDeep, TooMany, Memory}
use Rattle.rule_delegations.specs.declared.places.RuleRef.{RuleRef}
use Rattle.rule_delegations.proofs.Faults.{none_first_deep, once_distinct}
use Rattle.rule_delegations.proofs.Closing.{is_true, marks_are}
use Rattle.rule_delegations.proofs.Faulty.{faults_are, first_off, first_twice}

module _ (files : List RuleFile) (never : HasNoFault files) where
  none_twice : NoName (IsTwice files)
  none_twice = by_found (first_twice files).0 (first_twice files).1 where
    by_found : (found : Option (List ℕ)) → IsFirstName (IsTwice files) found → NoName (IsTwice files)
    by_found None none = none
    by_found (Some name) least = absurd (never (DuplicateName name) least)

  none_cut : (marks : List Bool) → AreMarked files marks → NoName (IsCutOff files)
  none_cut marks are = by_found (first_off files marks (once_distinct files none_twice) are).0 (first_off files marks (once_distinct files none_twice) are).1 where
    by_found : (found : Option (List ℕ)) → IsFirstName (IsCutOff files) found → NoName (IsCutOff files)
    by_found None none = none
    by_found (Some name) least = absurd (never (Unreachable name) (none_twice, least))

  none_shallow : AreShallow files
  none_shallow = by_found (faults_are files).0 (faults_are files).1 where
    by_found : (found : Option AssembleFault) → IsFirstFault files found → AreShallow files
    by_found None is = is.0.shallow
    by_found (Some fault) has = absurd (never fault has)

  not_nine : (chain : List RuleRef) → IsDeep files chain → ⊥
  not_nine chain deep = let less = none_shallow chain deep.is_chain in let nine = deep.long in omega (arith, less, nine)

  none_excess : NoName (IsCutOff files) → excess files ≡ None
  none_excess hung = by_found (excess files) refl where
    by_found : (found : Option ℕ) → excess files ≡ found → found ≡ None
    by_found None is = refl
    by_found (Some count) is = absurd (never (TooMany count) (none_twice, hung, none_first_deep files not_nine, is))

few_by : (rules keys : ℕ) → (if nat_lt 1024 rules then Some rules else (if nat_lt 1024 keys then Some keys else None)) ≡ None → (rules ≤ 1024) × (keys ≤ 1024)
few_by rules keys e = elim (is_true (nat_lt 1024 rules)) [
  | inl many ↦ absurd (let clash : Some rules ≡ None = sym (ap (λ (b : Bool). cond b (Some rules) (cond (nat_lt 1024 keys) (Some keys) None)) many) ∙ e in cc)
  | inr few ↦ elim (is_true (nat_lt 1024 keys)) [
    | inl more ↦
        let rest : cond (nat_lt 1024 rules) (Some rules) (Some keys) ≡ None = sym (ap (λ (b : Bool). cond (nat_lt 1024 rules) (Some rules) (cond b (Some keys) None)) more) ∙ e in
        absurd (by_rules (nat_lt 1024 rules) rest)
    | inr less ↦ (at_most rules few, at_most keys less)
  ]
] where
  by_rules : (b : Bool) → cond b (Some rules) (Some keys) ≡ None → ⊥
  by_rules true f = let clash : Some rules ≡ None = f in cc
  by_rules false f = let clash : Some keys ≡ None = f in cc

  at_most : (n : ℕ) → (nat_lt 1024 n ≡ true → ⊥) → n ≤ 1024
  at_most n isnt = elim (cases_lt 1024 n) [ inl more ↦ absurd (isnt (grind (arith, nat_tests))) | inr less ↦ less ]

faultless : (files : List RuleFile) → HasNoFault files → IsFaultless files
faultless [] never = record {
  once = λ name twice. elim twice [ inl rules ↦ omega (arith, rules) | inr names ↦ omega (arith, names) ];
  hung = λ name cut. let is = cut.is.is in absurd (cc is);
  shallow = none_shallow [] never;
  few_rules = omega arith;
  few_keys = omega arith;
}
faultless (top ∷ files) never =
    let once = none_twice (top ∷ files) never in
    let marks = marks_are top files (once_distinct (top ∷ files) once) in
    let hung = none_cut (top ∷ files) never marks.0 marks.1 in
    let few = few_by (count_of_rules (top ∷ files)) (count_of_keys (top ∷ files)) (none_excess (top ∷ files) never hung) in
    record { once = once; hung = hung; shallow = none_shallow (top ∷ files) never; few_rules = few.0; few_keys = few.1 }

no_excess : (rules keys : ℕ) → rules ≤ 1024 → keys ≤ 1024 → (if nat_lt 1024 rules then Some rules else (if nat_lt 1024 keys then Some keys else None)) ≡ None
no_excess rules keys few less =
    let first : nat_lt 1024 rules ≡ false = grind (arith, nat_tests) in
    let second : nat_lt 1024 keys ≡ false = grind (arith, nat_tests) in
    ap (λ (b : Bool). cond b (Some rules) (cond (nat_lt 1024 keys) (Some keys) None)) first ∙ ap (λ (b : Bool). cond b (Some keys) None) second

lawful_has : (files : List RuleFile) → IsFaultless files → HasNoFault files
lawful_has files is (DuplicateName name) has = is.once name has.has
lawful_has files is (Unreachable name) has = is.hung name has.1.has
lawful_has files is (TooDeep name) has =
    let less = is.shallow has.2.chain has.2.deep.is_chain in let nine = has.2.deep.long in omega (arith, less, nine)
lawful_has files is (TooMany count) has =
    let clash : None ≡ Some count = sym (no_excess (count_of_rules files) (count_of_keys files) is.few_rules is.few_keys) ∙ has.3 in cc
lawful_has files is Memory has = has

pub faultless_where : (files : List RuleFile) → HasNoFault files ↔ IsFaultless files
faultless_where files = (faultless files, lawful_has files)
