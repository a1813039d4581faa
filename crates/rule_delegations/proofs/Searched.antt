-- What the calls on rules answer.
use Rattle.std.proofs.Common.{◌≡◌, ◌+◌, ◌≤◌, ◌<◌, ℕ, suc, Bool, true, false, List, [], ◌∷◌, Some, None, refl, sym, ap, subst, ◌∙◌, inl, inr, arith, length, get_or, map}
use Prim.Native.Nat as Nat
use Rattle.std.specs.Prelude.{slice_get, IsSome, All, is_some}
use Rattle.std.specs.List.{AllByRecursion}
use Rattle.std.proofs.lemmas.Bool.{cases_lt, false_from_ne_true, false≢true}
use Rattle.std.proofs.lemmas.List.Elements.{All-cons, All-nil}
use Rattle.std.proofs.lemmas.Option.{get_or_from_slice_get, slice_get-get_or, slice_get_read}
use Rattle.rule_files.specs.declared.rules.Rule.{Rule}
use Rattle.rule_files.specs.declared.rules.RuleFile.{RuleFile}
use Rattle.rule_delegations.specs.declared.places.RuleRef.{RuleRef}
use Rattle.rule_delegations.specs.Chains.{Before, IsChain, IsRule, Leads, last_place, rule_at}
use Rattle.rule_delegations.specs.Forests.{IsPolicy, rules_of}
use Rattle.rule_delegations.specs.Reached.{AreReached, Holds, IsFirstReached, Matches, Name, Reached, rule_matches}
use Rattle.rule_delegations.specs.Walks.{Adds, walk}
use Rattle.rule_delegations.proofs.Orders.{Chain}
use Rattle.rule_delegations.proofs.Exact.{IsAny}
use Rattle.rule_delegations.proofs.Naming.{in_rule, rule_in}
use Rattle.rule_delegations.proofs.Reaching.{LastIs, last_there, walk_reaches}

pub searched : (files : List RuleFile) (name : Name) (new : List RuleRef) (stopped : Bool) → IsPolicy files → Adds [] new stopped (walk files name 8 0) → AreReached files name new
searched files name new stopped policy adds = rw adds.added (walk_reaches files name policy)

some_there : (files : List RuleFile) (c : Chain) → LastIs files IsAny c → IsSome (rule_at files (last_place c))
some_there files c last = ap is_some last.is

each_there : (files : List RuleFile) (name : Name) (chains : List Chain) → ((c : Chain) → Holds chains c → Reached files name c) → All (λ place. IsSome (rule_at files place)) (map last_place chains)
each_there files name [] reached = All-nil _
each_there files name (c ∷ cs) reached =
    All-cons (λ place. IsSome (rule_at files place)) (last_place c) (map last_place cs)
    (some_there files c (last_there files 0 c (reached c (inl refl)).is_chain)) (each_there files name cs (λ d h. reached d (inr h)))

pub all_there : (files : List RuleFile) (name : Name) (places : List RuleRef) → AreReached files name places → All (λ place. IsSome (rule_at files place)) places
all_there files name places are = rw are.lasts (each_there files name are.chains are.reached)

-- no rule of the list before this place matches
abbrev pub NoMatch : Name → List Rule → ℕ → Type 0
NoMatch name rules at = (k : ℕ) (rule : Rule) → k < at → slice_get rules k ≡ Some rule → rule_matches name rule ≡ false

pub no_match_more : (name : Name) (rules : List Rule) (at : ℕ) (rule : Rule) → at < length rules → rule ≡ get_or rules at rule → NoMatch name rules at → rule_matches name rule ≡ false → NoMatch name rules (at + 1)
no_match_more name rules at rule less is before here k other below there = elim (cases_lt k at) [
  | inl earlier ↦ before k other earlier there
  | inr last ↦
      let same : k ≡ at = omega arith in
      let read = slice_get_read rules _ at rule refl less is in
      let one : other ≡ rule = let e : Some other ≡ Some rule = sym there ∙ ap (slice_get rules) same ∙ read in cc in
      ap (rule_matches name) one ∙ here
]

pub found_less : {X : Type 0} (xs : List X) (at : ℕ) (x : X) → slice_get xs at ≡ Some x → at < length xs
found_less [] at x is = absurd (cc is)
found_less (y ∷ ys) Nat.zero x is = omega arith
found_less (y ∷ ys) (suc at) x is = let less = found_less ys at x is in omega (arith, less)

pub first_rule : (files : List RuleFile) (file : ℕ) (p : RuleRef) (ps : Chain) → Leads files file (p ∷ ps) → IsRule files file p
first_rule files file p [] is = is
first_rule files file p (q ∷ qs) is = is.0

no_less_than_nothing : (ps : Chain) → Before ps [] → ⊥
no_less_than_nothing [] before = before
no_less_than_nothing (p ∷ ps) before = before

module _ (files : List RuleFile) (name : Name) (rules : List Rule) (are : rules ≡ rules_of files 0) where
  -- the rule at which a chain begins
  begins_there : (p : RuleRef) (first : IsRule files 0 p) → slice_get rules p.rule ≡ Some first.rule
  begins_there p first = rw are (subst (λ (n : ℕ). slice_get (rules_of files n) p.rule ≡ Some first.rule) first.in_file (in_rule files p first.rule first.is))

  no_fewer : (at : ℕ) (p : RuleRef) → NoMatch name rules at → IsRule files 0 p → Matches files name p → p.rule < at → ⊥
  no_fewer at p before first match less =
      let not : rule_matches name first.rule ≡ false = before p.rule first.rule less (begins_there p first) in
      let same : first.rule ≡ match.rule = let a = first.is in let b = match.is in cc in
      false≢true (sym not ∙ ap (rule_matches name) same ∙ match.matches)

  not_earlier : (at : ℕ) (c : Chain) → NoMatch name rules at → IsChain files c → AllByRecursion (Matches files name) c → Before c (record { file = 0; rule = at } ∷ []) → ⊥
  not_earlier at [] none chain match before = chain
  not_earlier at (p ∷ ps) none chain match before = elim before [
    | inl first ↦ elim first [
      | inl file ↦ absurd (omega (arith, file))
      | inr rule ↦ no_fewer at p none (first_rule files 0 p ps chain) match.0 rule.1
    ]
    | inr same ↦ no_less_than_nothing ps same.1
  ]

  rule_there : (at : ℕ) (rule : Rule) → at < length rules → rule ≡ get_or rules at rule → rule_at files (record { file = 0; rule = at }) ≡ Some rule
  rule_there at rule less is = rule_in files 0 at rule (rw (← are) (slice_get_read rules _ at rule refl less is))

  pub first_found : (at : ℕ) (rule : Rule) → at < length rules → rule ≡ get_or rules at rule → NoMatch name rules at → rule_matches name rule ≡ true
      → IsFirstReached files name (Some (record { file = 0; rule = at }))
  first_found at rule less is none match =
      let there = rule_there at rule less is in (
        (record { file = 0; rule = at }) ∷ [],
        record {
          reached = record {
            is_chain = record { rule = rule; in_file = refl; is = there };
            matches = (record { rule = rule; is = there; matches = match }, tt);
            unstopped = λ other chain before no_prefix matches ends. not_earlier at other none chain matches before;
          };
          none_before = λ other reached before. not_earlier at other none reached.is_chain reached.matches before;
        },
        refl,
      )

  pub first_there : (at : ℕ) (rule : Rule) → at < length rules → rule ≡ get_or rules at rule → IsSome (rule_at files (record { file = 0; rule = at }))
  first_there at rule less is = ap is_some (rule_there at rule less is)

  pub none_found : (at : ℕ) → length rules ≤ at → NoMatch name rules at → IsFirstReached files name None
  none_found at end none [] reached = reached.is_chain
  none_found at end none (p ∷ ps) reached =
      let first = first_rule files 0 p ps reached.is_chain in
      let less = found_less rules p.rule first.rule (begins_there p first) in
      no_fewer at p none first reached.matches.0 (omega arith)

  -- where no chain is reached, no rule of the top file matches: the first that did would be reached
  unmatched : IsFirstReached files name None → (at : ℕ) → NoMatch name rules at
  unmatched none Nat.zero k rule less there = absurd (omega (arith, less))
  unmatched none (suc at) k rule less there = elim (cases_lt k at) [
    | inl earlier ↦ unmatched none at k rule earlier there
    | inr last ↦
        let same : k ≡ at = omega arith in
        let here : slice_get rules at ≡ Some rule = rw (← same) there in
        let is : rule ≡ get_or rules at rule = sym (get_or_from_slice_get rules at rule rule here) in
        let none_before = unmatched none at in
        false_from_ne_true (rule_matches name rule) (λ match.
        let found = first_found at rule (found_less rules at rule here) is none_before match in
        none found.0 found.1.reached)
  ]

  pub none_matches : IsFirstReached files name None → All (λ rule. rule_matches name rule ≡ false) rules
  none_matches none k d less = unmatched none (k + 1) k (get_or rules k d) (omega arith) (slice_get-get_or rules k d less)
