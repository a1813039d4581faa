-- The walk finds exactly the reached chains.
use Rattle.std.proofs.Common.{◌≡◌, ◌⊎◌, ◌+◌, ◌≤◌, ℕ, suc, Bool, true, false, cond, List, [], ◌∷◌, Option, Some, None, refl, sym, ap, ◌∙◌, inl, inr, arith}
use Prim.Native.Nat as Nat
use Rattle.std.proofs.lemmas.Bool.{false≢true}
use Rattle.rule_files.specs.declared.rules.Rule.{Rule}
use Rattle.rule_files.specs.declared.rules.RuleFile.{RuleFile}
use Rattle.rule_delegations.specs.declared.places.RuleRef.{RuleRef}
use Rattle.rule_delegations.specs.Forests.{place_named, rules_of}
use Rattle.rule_delegations.specs.Reached.{Name, rule_matches}
use Rattle.rule_delegations.specs.Walks.{Found, at_rule, below_link, nothing, one_rule, walk, walk_rules}
use Rattle.rule_delegations.proofs.Orders.{Chain}
use Rattle.rule_delegations.proofs.Families.{Apart, AtPlace, IsExact, none, rule_exact, then_exact}

-- the same families in other words
same_family : (L S M T : Chain → Type 0) (w : Found) → IsExact L S w → ((c : Chain) → L c → M c) → ((c : Chain) → M c → L c) → ((c : Chain) → S c → T c) → ((c : Chain) → T c → S c) → IsExact M T w
same_family L S M T w is lm ml st ts = record {
  live = λ c h. lm c (is.live c h);
  unstopped = λ c h o t. is.unstopped c h o (ts o t);
  all = λ c m free. is.all c (ml c m) (λ o s. free o (st o s));
  stops = λ e. let (c, s) = is.stops e in (c, st c s);
  stopped = λ c t. is.stopped c (ts c t);
  in_order = is.in_order;
  lasts = is.lasts;
}

abbrev pub IsAny : Rule → Type 0
IsAny rule = Unit {0}

abbrev pub IsEnding : Rule → Type 0
IsEnding rule = rule.terminating ≡ true

-- the chain begins in this file, at this rule or later
abbrev Begins : ℕ → ℕ → Chain → Type 0
Begins file at [] = ⊥
Begins file at (p ∷ ps) = (p.file ≡ file) × (at ≤ p.rule)

module _ (files : List RuleFile) (name : Name) where
  -- families as the walk goes: what is below a rule, at a rule, at one of some rules, in a file
  abbrev pub Under : (ℕ → Chain → Type 0) → Option ℕ → Chain → Type 0
  Under into None c = ⊥
  Under into (Some at) c = into at c

  abbrev pub AtRule : (Rule → Type 0) → (ℕ → Chain → Type 0) → RuleRef → Rule → Chain → Type 0
  AtRule Last into place rule c = (rule_matches name rule ≡ true) × AtPlace place (Last rule) (Under into (place_named files rule.name)) c

  abbrev pub InRules : (Rule → Type 0) → (ℕ → Chain → Type 0) → ℕ → ℕ → List Rule → Chain → Type 0
  InRules Last into file at [] c = ⊥
  InRules Last into file at (rule ∷ rules) c = AtRule Last into (record { file = file; rule = at }) rule c ⊎ InRules Last into file (at + 1) rules c

  abbrev pub InFile : (Rule → Type 0) → ℕ → ℕ → Chain → Type 0
  InFile Last Nat.zero file c = ⊥
  InFile Last (suc n) file c = InRules Last (InFile Last n) file 0 (rules_of files file) c

  at_begins : (Last : Rule → Type 0) (into : ℕ → Chain → Type 0) (file at : ℕ) (rule : Rule) (c : Chain) → AtRule Last into (record { file = file; rule = at }) rule c → Begins file at c
  at_begins Last into file at rule [] is = is.1
  at_begins Last into file at rule (q ∷ []) is =
      let f = ap (λ (x : RuleRef). x.file) is.1.0 in let r = ap (λ (x : RuleRef). x.rule) is.1.0 in (sym f, omega (arith, r))
  at_begins Last into file at rule (q ∷ r ∷ rs) is =
      let f = ap (λ (x : RuleRef). x.file) is.1.0 in let e = ap (λ (x : RuleRef). x.rule) is.1.0 in (sym f, omega (arith, e))

  begins_later : (file at : ℕ) (c : Chain) → Begins file (at + 1) c → Begins file at c
  begins_later file at [] b = b
  begins_later file at (p ∷ ps) b = (b.0, omega (arith, b.1))

  rules_begin : (Last : Rule → Type 0) (into : ℕ → Chain → Type 0) (file at : ℕ) (rules : List Rule) (c : Chain) → InRules Last into file at rules c → Begins file at c
  rules_begin Last into file at [] c is = absurd is
  rules_begin Last into file at (rule ∷ rules) c is = elim is [
    | inl here ↦ at_begins Last into file at rule c here
    | inr later ↦ begins_later file at c (rules_begin Last into file (at + 1) rules c later)
  ]

  some_place : (Last : Rule → Type 0) (n file : ℕ) → InFile Last n file [] → ⊥
  some_place Last Nat.zero file is = is
  some_place Last (suc n) file is = rules_begin Last (InFile Last n) file 0 (rules_of files file) [] is

  under_some : (Last : Rule → Type 0) (n : ℕ) (link : Option ℕ) → Under (InFile Last n) link [] → ⊥
  under_some Last n None is = is
  under_some Last n (Some at) is = some_place Last n at is

  at_apart : (file at : ℕ) (c d : Chain) (rule : Rule) (into : ℕ → Chain → Type 0) → AtRule IsAny into (record { file = file; rule = at }) rule c → Begins file (at + 1) d → Apart c d
  at_apart file at [] d rule into is b = is.1
  at_apart file at (p ∷ ps) [] rule into is b = b
  at_apart file at (p ∷ []) (q ∷ qs) rule into is b =
      let f = ap (λ (x : RuleRef). x.file) is.1.0 in let e = ap (λ (x : RuleRef). x.rule) is.1.0 in inr (sym f ∙ sym b.0, omega (arith, e, b.1))
  at_apart file at (p ∷ r ∷ rs) (q ∷ qs) rule into is b =
      let f = ap (λ (x : RuleRef). x.file) is.1.0 in let e = ap (λ (x : RuleRef). x.rule) is.1.0 in inr (sym f ∙ sym b.0, omega (arith, e, b.1))

  -- a chain whose last rule is terminating is a chain
  module _ (L S : ℕ → Chain → Type 0) (sub : (at : ℕ) (c : Chain) → S at c → L at c) where
    under_sub : (link : Option ℕ) (c : Chain) → Under S link c → Under L link c
    under_sub None c is = is
    under_sub (Some at) c is = sub at c is

    at_sub : (place : RuleRef) (rule : Rule) (c : Chain) → AtRule IsEnding S place rule c → AtRule IsAny L place rule c
    at_sub place rule [] is = is
    at_sub place rule (q ∷ []) is = (is.0, (is.1.0, tt))
    at_sub place rule (q ∷ r ∷ rs) is = (is.0, (is.1.0, under_sub (place_named files rule.name) (r ∷ rs) is.1.1))

    rules_sub : (file at : ℕ) (rules : List Rule) (c : Chain) → InRules IsEnding S file at rules c → InRules IsAny L file at rules c
    rules_sub file at [] c is = is
    rules_sub file at (rule ∷ rules) c is = elim is [
      | inl here ↦ inl (at_sub (record { file = file; rule = at }) rule c here)
      | inr later ↦ inr (rules_sub file (at + 1) rules c later)
    ]

  file_sub : (n file : ℕ) (c : Chain) → InFile IsEnding n file c → InFile IsAny n file c
  file_sub Nat.zero file c is = is
  file_sub (suc n) file c is = rules_sub (InFile IsAny n) (InFile IsEnding n) (file_sub n) file 0 (rules_of files file) c is

  module _ (n : ℕ) (below : (file : ℕ) → IsExact (InFile IsAny n file) (InFile IsEnding n file) (walk files name n file)) where
    link_exact : (link : Option ℕ) → IsExact (Under (InFile IsAny n) link) (Under (InFile IsEnding n) link) (below_link (walk files name n) link)
    link_exact None = none _ _ (λ c h. h) (λ c h. h)
    link_exact (Some at) = below at

    one_exact : (place : RuleRef) (rule : Rule) → IsExact (AtRule IsAny (InFile IsAny n) place rule) (AtRule IsEnding (InFile IsEnding n) place rule) (one_rule (walk files name n) (place_named files) name place rule)
    one_exact place rule = by_match (rule_matches name rule) refl where
      link : Option ℕ
      link = place_named files rule.name

      by_match : (b : Bool) → rule_matches name rule ≡ b → IsExact (AtRule IsAny (InFile IsAny n) place rule) (AtRule IsEnding (InFile IsEnding n) place rule)
          (cond b (at_rule place rule.terminating (below_link (walk files name n) (place_named files rule.name))) nothing)
      by_match true is =
          same_family (AtPlace place (Unit {0}) (Under (InFile IsAny n) (place_named files rule.name))) (AtPlace place (rule.terminating ≡ true) (Under (InFile IsEnding n) (place_named files rule.name))) _ _ _
          (rule_exact place rule.terminating (Under (InFile IsAny n) (place_named files rule.name)) (Under (InFile IsEnding n) (place_named files rule.name))
          (under_sub (InFile IsAny n) (InFile IsEnding n) (file_sub n) (place_named files rule.name)) (under_some IsAny n (place_named files rule.name))
          (below_link (walk files name n) (place_named files rule.name)) (link_exact (place_named files rule.name)))
          (λ c h. (is, h)) (λ c h. h.1) (λ c h. (is, h)) (λ c h. h.1)
      by_match false is = none _ _ (λ c h. false≢true (sym is ∙ h.0)) (λ c h. false≢true (sym is ∙ h.0))

    rules_exact : (file at : ℕ) (rules : List Rule) → IsExact (InRules IsAny (InFile IsAny n) file at rules) (InRules IsEnding (InFile IsEnding n) file at rules) (walk_rules (walk files name n) (place_named files) name file at rules)
    rules_exact file at [] = none _ _ (λ c h. h) (λ c h. h)
    rules_exact file at (rule ∷ rules) =
        then_exact (AtRule IsAny (InFile IsAny n) (record { file = file; rule = at }) rule) (AtRule IsEnding (InFile IsEnding n) (record { file = file; rule = at }) rule)
        (InRules IsAny (InFile IsAny n) file (at + 1) rules) (InRules IsEnding (InFile IsEnding n) file (at + 1) rules)
        (at_sub (InFile IsAny n) (InFile IsEnding n) (file_sub n) (record { file = file; rule = at }) rule)
        (rules_sub (InFile IsAny n) (InFile IsEnding n) (file_sub n) file (at + 1) rules)
        (λ a b x y. at_apart file at a b rule (InFile IsAny n) x (rules_begin IsAny (InFile IsAny n) file (at + 1) rules b y))
        _ _ _ _ (one_exact (record { file = file; rule = at }) rule) (rules_exact file (at + 1) rules)

  pub file_exact : (n file : ℕ) → IsExact (InFile IsAny n file) (InFile IsEnding n file) (walk files name n file)
  unfolding walk
  file_exact Nat.zero file = none _ _ (λ c h. h) (λ c h. h)
  file_exact (suc n) file = rules_exact n (file_exact n) file 0 (rules_of files file)
