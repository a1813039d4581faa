-- That a name is met, that a key may act, and which rule is reached first, by the relations over chains.
use Rattle.std.proofs.Common.{◌≡◌, ◌||◌, ℕ, Bool, true, false, List, [], ◌∷◌, Option, Some, None, map, refl, ap, sym, ◌∙◌, inl, inr}
use Rattle.std.specs.Prelude.{IsTrue, ◌↔◌}
use Rattle.std.specs.List.{list_any}
use Rattle.std.specs.Option.{option_map}
use Rattle.std.proofs.lemmas.Bool.{false≢true}
use Rattle.rule_files.specs.declared.rules.Rule.{Rule}
use Rattle.rule_files.specs.declared.rules.RuleFile.{RuleFile}
use Rattle.rule_delegations.specs.declared.places.RuleRef.{RuleRef}
use Rattle.rule_delegations.specs.declared.places.Short.{Short}
use Rattle.rule_delegations.specs.Chains.{Before, last_place}
use Rattle.rule_delegations.specs.Forests.{IsPolicy}
use Rattle.rule_delegations.specs.Reached.{Holds, InOrder, IsFirstReached, IsShort, MayAct, Meets, Name, Reached, is_listed}
use Rattle.rule_delegations.specs.Walks.{is_enough, passes_at}
use Rattle.rule_delegations.proofs.Orders.{Chain, held_all}
use Rattle.rule_delegations.proofs.Reaching.{walk_reaches}
use Rattle.rule_delegations.proofs.Tellings.{Either, either_listed, either_met, listed_either, met_either, passes_some, some_passes}
use Rattle.entry_rules.specs.Meeting.{first_place, is_none_of, meets, passes, reached}

or_true : (b : Bool) → (b || true) ≡ true
or_true true = refl
or_true false = refl

none_held : (chains : List Chain) → is_none_of (map last_place chains) ≡ true → (c : Chain) → Holds chains c → ⊥
none_held [] e c held = held
none_held (d ∷ ds) e c held = false≢true e

none_is : (chains : List Chain) → ((c : Chain) → Holds chains c → ⊥) → is_none_of (map last_place chains) ≡ true
none_is [] h = refl
none_is (d ∷ ds) h = absurd (h d (inl refl))

module _ (files : List RuleFile) (name : Name) (policy : IsPolicy files) where
  none_reached : is_none_of (reached files name) ≡ true → (c : Chain) → Reached files name c → ⊥
  none_reached e c is =
      let are = walk_reaches files name policy in
      none_held are.chains (ap is_none_of (sym are.lasts) ∙ e) c (are.all c is)

  reached_none : ((c : Chain) → Reached files name c → ⊥) → is_none_of (reached files name) ≡ true
  reached_none none =
      let are = walk_reaches files name policy in
      ap is_none_of are.lasts ∙ none_is are.chains (λ c held. none c (are.reached c held))

  either_true : (test : Rule → Bool) → Either files name test → passes files test (reached files name) ≡ true
  either_true test either = elim either [
    | inl none ↦ ap (λ b. b || list_any (passes_at files test) (reached files name)) (reached_none none)
    | inr some ↦ ap (λ b. is_none_of (reached files name) || b) (passes_some files name test policy some.0 some.1) ∙ or_true (is_none_of (reached files name))
  ]

  true_either : (test : Rule → Bool) → passes files test (reached files name) ≡ true → Either files name test
  true_either test e = by_none (is_none_of (reached files name)) refl e where
    by_none : (b : Bool) → is_none_of (reached files name) ≡ b → (b || list_any (passes_at files test) (reached files name)) ≡ true → Either files name test
    by_none true is e = inl (none_reached is)
    by_none false is e = inr (some_passes files name test policy e)

  pub met_true : (signers : List (List ℕ)) → Meets files name signers ↔ (meets files name signers ≡ true)
  met_true signers = (
    λ m. either_true (is_enough signers) (met_either files name signers m),
    λ e. either_met files name signers (true_either (is_enough signers) e),
  )

  pub listed_true : (key : List ℕ) → MayAct files name key ↔ (passes files (λ rule. is_listed rule.persons key) (reached files name) ≡ true)
  listed_true key = (
    λ m. either_true (λ rule. is_listed rule.persons key) (listed_either files name key m),
    λ e. either_listed files name key (true_either (λ rule. is_listed rule.persons key) e),
  )

-- two tests that tell one thing
pub same_test : (a b : Bool) (P : Type 0) → (IsTrue a → P) × (P → IsTrue a) → (P → b ≡ true) × (b ≡ true → P) → a ≡ b
same_test true true P tells is = refl
same_test false false P tells is = refl
same_test true false P tells is = absurd (false≢true (is.0 (tells.0 refl)))
same_test false true P tells is = absurd (false≢true (tells.1 (is.1 refl)))

-- ---- the rule that is reached first
first_is : (chains : List Chain) (places : List RuleRef) → places ≡ map last_place chains → InOrder chains → (chain : Chain) → Holds chains chain → ((other : Chain) → Holds chains other → Before other chain → ⊥) → first_place places ≡ Some (last_place chain)
first_is [] places lasts in_order chain held none = absurd held
first_is (c ∷ cs) places lasts in_order chain held none = ap first_place lasts ∙ elim held [
  | inl here ↦ ap (λ (x : Chain). Some (last_place x)) here
  | inr later ↦ absurd (none c (inl refl) (held_all (Before c) cs in_order.0 chain later))
]

no_first : (places : List RuleRef) → is_none_of places ≡ true → first_place places ≡ None
no_first [] e = refl
no_first (p ∷ ps) e = absurd (false≢true e)

pub first_reached_is : (files : List RuleFile) (name : Name) → IsPolicy files → (first : Option RuleRef) → IsFirstReached files name first → first_place (reached files name) ≡ first
first_reached_is files name policy None none =
    let are = walk_reaches files name policy in
    no_first (reached files name) (ap is_none_of are.lasts ∙ none_is are.chains (λ c held. none c (are.reached c held)))
first_reached_is files name policy (Some place) some =
    let are = walk_reaches files name policy in
    let first = some.1 in
    first_is are.chains (reached files name) are.lasts are.in_order some.0 (are.all some.0 first.reached) (λ other held. first.none_before other (are.reached other held)) ∙ ap Some some.2

pub short_first : (files : List RuleFile) (name : Name) (signers : List (List ℕ)) (short : Option Short) → IsShort files name signers short → IsFirstReached files name (option_map (λ s. s.place) short)
short_first files name signers None none = none
short_first files name signers (Some short) is = is.first
