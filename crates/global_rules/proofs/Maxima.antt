-- The greatest count over places, and over the chains that are reached.
use Rattle.std.proofs.Common.{◌≡◌, ◌≤◌, ◌<◌, ◌+◌, ℕ, List, [], ◌∷◌, Option, Some, None, drop, get_or, length, map, max, refl, ap, sym, ◌∙◌, inl, inr, arith}
use Rattle.std.specs.Option.{option_map_or}
use Rattle.std.proofs.lemmas.Bool.{cases_lt}
use Rattle.std.proofs.lemmas.List.{drop_all}
use Rattle.root_metadata.specs.Persons.{count_in}
use Rattle.rule_files.specs.declared.rules.Rule.{Rule}
use Rattle.rule_files.specs.declared.rules.RuleFile.{RuleFile}
use Rattle.rule_delegations.specs.Chains.{last_place, last_rule}
use Rattle.rule_delegations.specs.Forests.{IsPolicy}
use Rattle.rule_delegations.specs.Reached.{AreReached, Holds, Name, Reached}
use Rattle.rule_delegations.specs.declared.places.RuleRef.{RuleRef}
use Rattle.rule_delegations.proofs.Orders.{Chain}
use Rattle.rule_delegations.proofs.Reaching.{walk_reaches}
use Rattle.global_rules.specs.Greatest.{IsCounted, IsGreatest, count_at, greatest, greatest_at}
use Rattle.global_rules.proofs.Walked.{split}

module _ (files : List RuleFile) (signers : List (List ℕ)) where
  pub more_counted : (places : List RuleRef) (i most count next : ℕ) (first place : RuleRef) → i < length places → place ≡ get_or places i first → count ≡ count_at files signers place → next ≡ max most count
      → max most (greatest_at files signers (drop i places)) ≡ greatest_at files signers places → max next (greatest_at files signers (drop (i + 1) places)) ≡ greatest_at files signers places
  more_counted places i most count next first place within is counts more so_far =
      let here : greatest_at files signers (drop i places) ≡ max (count_at files signers place) (greatest_at files signers (drop (i + 1) places)) = ap (greatest_at files signers) (split places i first place within is) in
      omega (arith, here, counts, more, so_far)

  pub all_counted : (places : List RuleRef) (i most : ℕ) → length places ≤ i → max most (greatest_at files signers (drop i places)) ≡ greatest_at files signers places → most ≡ greatest_at files signers places
  all_counted places i most past so_far =
      let none : greatest_at files signers (drop i places) ≡ 0 = ap (greatest_at files signers) (drop_all i places past) in
      omega (arith, none, so_far)

  abbrev counted : Chain → ℕ
  counted c = count_at files signers (last_place c)

  abbrev top : List Chain → ℕ
  top chains = greatest_at files signers (map last_place chains)

  held_less : (chains : List Chain) (c : Chain) → Holds chains c → counted c ≤ top chains
  held_less [] c held = absurd held
  held_less (d ∷ ds) c held = elim held [
    | inl here ↦ let same : counted d ≡ counted c = ap counted here in omega (arith, same)
    | inr later ↦ let less = held_less ds c later in omega (arith, less)
  ]

  bounded : (chains : List Chain) (most : ℕ) → ((c : Chain) → Holds chains c → counted c ≤ most) → top chains ≤ most
  bounded [] most h = omega arith
  bounded (d ∷ ds) most h =
      let first = h d (inl refl) in
      let rest = bounded ds most (λ c held. h c (inr held)) in
      omega (arith, first, rest)

  has_top : (chains : List Chain) → 0 < top chains → (c : Chain) × Holds chains c × (counted c ≡ top chains)
  has_top [] some = absurd (omega (arith, some))
  has_top (d ∷ ds) some = elim (cases_lt (counted d) (top ds)) [
    | inl less ↦
        let rest = has_top ds (omega (arith, less)) in
        let is = rest.2 in
        (rest.0, inr rest.1, omega (arith, is, less))
    | inr more ↦ (d, inl refl, omega (arith, more))
  ]

module _ (files : List RuleFile) (name : Name) (signers : List (List ℕ)) (policy : IsPolicy files) where
  -- whichever places are those of the reached chains, the greatest over them is one
  pub same_greatest : (places : List RuleRef) → AreReached files name places → greatest_at files signers places ≡ greatest files name signers
  same_greatest places are =
      let walk = walk_reaches files name policy in
      let ups = bounded files signers are.chains (top files signers walk.chains) (λ c held. held_less files signers walk.chains c (walk.all c (are.reached c held))) in
      let downs = bounded files signers walk.chains (top files signers are.chains) (λ c held. held_less files signers are.chains c (are.all c (walk.reached c held))) in
      let same : top files signers are.chains ≡ top files signers walk.chains = omega (arith, ups, downs) in
      ap (greatest_at files signers) are.lasts ∙ same ∙ sym (ap (greatest_at files signers) walk.lasts)

  counted_by : (c : Chain) (most : ℕ) → Reached files name c → counted files signers c ≡ most → 0 < most → IsCounted files name signers most
  counted_by c most is e some = by_rule (last_rule files c) refl e where
    by_rule : (o : Option Rule) → last_rule files c ≡ o → option_map_or (λ (rule : Rule). count_in rule.persons signers) o 0 ≡ most → IsCounted files name signers most
    by_rule None last e = absurd (omega (arith, e, some))
    by_rule (Some rule) last e = record { chain = c; reached = is; rule = rule; last = last; is = e }

  pub is_greatest : IsGreatest files name signers (greatest files name signers)
  is_greatest =
      let walk = walk_reaches files name policy in
      let same : greatest files name signers ≡ top files signers walk.chains = ap (greatest_at files signers) walk.lasts in
      record {
        none_more = λ count is.
            let one : counted files signers is.chain ≡ count = ap (λ (o : Option Rule). option_map_or (λ (rule : Rule). count_in rule.persons signers) o 0) is.last ∙ is.is in
            let less = held_less files signers walk.chains is.chain (walk.all is.chain is.reached) in
            omega (arith, one, less, same);
        one = λ some.
            let found = has_top files signers walk.chains (omega (arith, some, same)) in
            counted_by found.0 (greatest files name signers) (walk.reached found.0 found.1) (found.2 ∙ sym same) some;
      }
