-- The rule that is told: that of the first reached chain.
use Rattle.std.proofs.Common.{◌≡◌, ℕ, List, [], ◌∷◌, Some, refl, ap, sym, subst, ◌∙◌, inl, inr}
use Rattle.std.specs.Prelude.{option_and_then}
use Rattle.std.specs.Option.{option_map}
use Rattle.root_metadata.specs.Persons.{count_in}
use Rattle.rule_files.specs.declared.rules.Rule.{Rule}
use Rattle.rule_files.specs.declared.rules.RuleFile.{RuleFile}
use Rattle.rule_delegations.specs.Chains.{Before, last_place}
use Rattle.rule_delegations.specs.Forests.{IsPolicy}
use Rattle.rule_delegations.specs.Reached.{Holds, InOrder, Meets, Name, Reached}
use Rattle.rule_delegations.proofs.Orders.{Chain, held_all, not_before_itself, not_both_before}
use Rattle.rule_delegations.proofs.Reaching.{last_there, walk_reaches}
use Rattle.entry_rules.specs.declared.faults.Fault.{Fault}
use Rattle.entry_rules.specs.Faults.{first_told, told_of}
use Rattle.entry_rules.specs.Readings.{IsRuleTold}
use Rattle.entry_rules.proofs.Meetings.{first_reached_is}

not_both : (a b : Chain) → Before a b → Before b a → ⊥
not_both [] [] first second = first
not_both [] (q ∷ qs) first second = second
not_both (p ∷ ps) [] first second = first
not_both (p ∷ ps) (q ∷ qs) first second = elim first [
  | inl pq ↦ elim second [ inl qp ↦ not_both_before p q pq qp | inr same ↦ not_before_itself p q (sym same.0) pq ]
  | inr same ↦ elim second [ inl qp ↦ not_before_itself q p (sym same.0) qp | inr other ↦ not_both ps qs same.1 other.1 ]
]

-- a rule that can be told
pub record Tells (files : List RuleFile) (name : Name) (signers : List (List ℕ)) : Type 0 where
  pub told : List ℕ
  pub got : ℕ
  pub need : ℕ
  pub is : IsRuleTold files name signers told got need

module _ (files : List RuleFile) (name : Name) (signers : List (List ℕ)) (policy : IsPolicy files) where
  -- where a chain is reached, there is a first one, which has a last rule
  first_tells : (chains : List Chain) → ((c : Chain) → Holds chains c → Reached files name c) → ((c : Chain) → Reached files name c → Holds chains c) → InOrder chains
      → (((c : Chain) → Reached files name c → ⊥) → ⊥) → Tells files name signers
  first_tells [] reached all in_order some = absurd (some (λ c is. all c is))
  first_tells (c ∷ cs) reached all in_order some =
      let is = reached c (inl refl) in
      let last = last_there files 0 c is.is_chain in
      let rule = last.rule in
      record {
        told = rule.name;
        got = count_in rule.persons signers;
        need = rule.threshold;
        is = record {
          place = last_place c;
          first = (c, record { reached = is; none_before = λ other there before. earlier other (all other there) before }, refl);
          rule = rule;
          is = last.is;
          named = refl;
          counted = refl;
          needed = refl;
        };
      }
    where
      earlier : (other : Chain) → Holds (c ∷ cs) other → Before other c → ⊥
      earlier other held before = elim held [
        | inl here ↦
            let itself : Before c c = subst (λ (x : Chain). Before x c) (sym here) before in
            not_both c c itself itself
        | inr later ↦ not_both other c before (held_all (Before c) cs in_order.0 other later)
      ]

  pub unmet_tells : (Meets files name signers → ⊥) → Tells files name signers
  unmet_tells unmet =
      let are = walk_reaches files name policy in
      first_tells are.chains are.reached are.all are.in_order (λ none. unmet (inl none))

  pub told_is : (make : List ℕ → ℕ → ℕ → Fault) (told : List ℕ) (got need : ℕ) → IsRuleTold files name signers told got need → first_told make files name signers ≡ Some (make told got need)
  told_is make told got need is =
      ap (option_and_then (told_of make files signers)) (first_reached_is files name policy (Some is.place) is.first)
      ∙ ap (option_map (λ (rule : Rule). make rule.name (count_in rule.persons signers) rule.threshold)) is.is
      ∙ (λ i. Some (make (is.named i) (is.counted i) (is.needed i)))
