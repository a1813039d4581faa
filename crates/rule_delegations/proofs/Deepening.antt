-- The first chain of so many rules.
use Rattle.std.proofs.Common.{◌≡◌, ◌+◌, ◌-◌, ◌<◌, ◌≤◌, ℕ, suc, List, [], ◌∷◌, Option, Some, None, refl, sym, ap, subst, ◌∙◌, inl, inr, arith, length, take}
use Prim.Native.Nat as Nat
use Rattle.std.proofs.lemmas.List.{length-take-le}
use Rattle.std.specs.Prelude.{IsSome, is_some, slice_get}
use Rattle.std.proofs.lemmas.Bool.{cases_lt, false≢true}
use Rattle.rule_files.specs.declared.rules.Rule.{Rule}
use Rattle.rule_files.specs.declared.rules.RuleFile.{RuleFile}
use Rattle.rule_delegations.specs.declared.places.RuleRef.{RuleRef}
use Rattle.rule_delegations.specs.Assembling.{IsDeep, IsFirstDeep}
use Rattle.rule_delegations.specs.Chains.{Before, IsNamed, Leads, last_place, rule_at}
use Rattle.rule_delegations.specs.Deep.{BeginsAt, BeginsIn, EndsFirst, IsFirstEnd}
use Rattle.rule_delegations.specs.Forests.{AreDistinct, AreShallow, link_at, rules_of}
use Rattle.rule_delegations.proofs.Naming.{in_rule, named_there, there_named}
use Rattle.rule_delegations.proofs.Orders.{Chain, not_before_itself}
use Rattle.rule_delegations.proofs.Reaching.{last_there, leads_here}
use Rattle.rule_delegations.proofs.Searched.{first_rule, found_less}
use Rattle.rule_delegations.proofs.Spreading.{HasLink, link_rule, rule_link}

module _ (files : List RuleFile) (distinct : AreDistinct files) where
  -- ---- from a rule

  pub alone : (place : RuleRef) (left : ℕ) → IsSome (rule_at files place) → left ≡ 1 → EndsFirst (BeginsAt files place left) place
  alone place left some one = by_rule (rule_at files place) refl some where
    never : (other : Chain) → BeginsAt files place left other → Before other (place ∷ []) → ⊥
    never [] is before = is
    never (p ∷ []) is before = elim before [ inl first ↦ not_before_itself p place is.0 first | inr same ↦ same.1 ]
    never (p ∷ q ∷ qs) is before = elim before [ inl first ↦ not_before_itself p place is.0 first | inr same ↦ same.1 ]

    by_rule : (found : Option Rule) → rule_at files place ≡ found → IsSome found → EndsFirst (BeginsAt files place left) place
    by_rule None h s = absurd (false≢true s)
    by_rule (Some rule) h s = record { chain = place ∷ []; is = (refl, record { rule = rule; in_file = refl; is = h }, sym one); last = refl; none_before = never }

  -- what is left of a chain below its first rule
  record Tail (place : RuleRef) (left : ℕ) (ps : Chain) : Type 0 where
    pub first : RuleRef
    pub more : Chain
    pub is : ps ≡ first ∷ more
    pub link : link_at files place ≡ Some first.file
    pub begins : BeginsIn files first.file 0 (left - 1) (first ∷ more)

  tail_of : (place : RuleRef) (left : ℕ) (p : RuleRef) (ps : Chain) → (left ≡ 1 → ⊥) → BeginsAt files place left (p ∷ ps) → Tail place left ps
  tail_of place left p [] many is = absurd (many (sym is.2))
  tail_of place left p (q ∷ qs) many is =
      let (first, named, more) = is.1 in
      let count = is.2 in
      record {
        first = q;
        more = qs;
        is = refl;
        link = ap (link_at files) (sym is.0) ∙ rule_link files p first.rule first.is ∙ there_named files first.rule.name q.file distinct named;
        begins = (omega arith, more, omega (arith, count));
      }

  in_link : (place : RuleRef) (left file : ℕ) (ps : Chain) → link_at files place ≡ Some file → Tail place left ps → BeginsIn files file 0 (left - 1) ps
  in_link place left file ps link tail =
      let same : tail.first.file ≡ file = let a = tail.link in cc in
      subst (BeginsIn files file 0 (left - 1)) (sym tail.is) (subst (λ (f : ℕ). BeginsIn files f 0 (left - 1) (tail.first ∷ tail.more)) same tail.begins)

  pub below_none : (place : RuleRef) (left : ℕ) → (left ≡ 1 → ⊥) → link_at files place ≡ None → IsFirstEnd (BeginsAt files place left) None
  below_none place left many link [] is = is
  below_none place left many link (p ∷ ps) is = let tail = tail_of place left p ps many is in let a = tail.link in cc

  pub below_link : (place : RuleRef) (left file : ℕ) (found : Option RuleRef) → (left ≡ 1 → ⊥) → 0 < left → link_at files place ≡ Some file → IsFirstEnd (BeginsIn files file 0 (left - 1)) found → IsFirstEnd (BeginsAt files place left) found
  below_link place left file None many some link none = by_chain where
    by_chain : (chain : Chain) → BeginsAt files place left chain → ⊥
    by_chain [] is = is
    by_chain (p ∷ ps) is = none ps (in_link place left file ps link (tail_of place left p ps many is))
  below_link place left file (Some end) many some link first = by_tail first.chain first.is first.last first.none_before where
    rule : HasLink files place file
    rule = link_rule files place file link

    never : (chain : Chain) → ((other : Chain) → BeginsIn files file 0 (left - 1) other → Before other chain → ⊥) → (other : Chain) → BeginsAt files place left other → Before other (place ∷ chain) → ⊥
    never chain none [] is before = is
    never chain none (p ∷ ps) is before = elim before [
      | inl first ↦ not_before_itself p place is.0 first
      | inr same ↦ none ps (in_link place left file ps link (tail_of place left p ps many is)) same.1
    ]

    by_tail : (chain : Chain) → BeginsIn files file 0 (left - 1) chain → last_place chain ≡ end → ((other : Chain) → BeginsIn files file 0 (left - 1) other → Before other chain → ⊥) → EndsFirst (BeginsAt files place left) end
    by_tail [] is last none = absurd is
    by_tail (q ∷ qs) is last none =
        let same = leads_here files file q qs is.1 in
        let named = named_there files rule.rule.name file rule.below in
        let count = is.2 in
        record {
          chain = place ∷ q ∷ qs;
          is = (
            refl,
            (record { rule = rule.rule; in_file = refl; is = rule.is }, subst (λ (f : ℕ). IsNamed files f rule.rule.name) (sym same) named, subst (λ (f : ℕ). Leads files f (q ∷ qs)) (sym same) is.1),
            omega (arith, count, some),
          );
          last = last;
          none_before = never (q ∷ qs) none;
        }

  -- ---- from a file

  begins_here : (file at left : ℕ) (p : RuleRef) (ps : Chain) → p.rule ≡ at → Leads files file (p ∷ ps) → length (p ∷ ps) ≡ left → BeginsAt files (record { file = file; rule = at }) left (p ∷ ps)
  begins_here file at left p ps same leads count = let f = leads_here files file p ps leads in ((λ i. record { file = f i; rule = same i }), leads, count)

  pub deep_here : (file at left : ℕ) (end : RuleRef) → EndsFirst (BeginsAt files (record { file = file; rule = at }) left) end → EndsFirst (BeginsIn files file at left) end
  deep_here file at left end first = record { chain = first.chain; is = from_here first.chain first.is; last = first.last; none_before = never first.chain first.is first.none_before } where
    from_here : (chain : Chain) → BeginsAt files (record { file = file; rule = at }) left chain → BeginsIn files file at left chain
    from_here [] is = is
    from_here (p ∷ ps) is = let r = ap (λ (x : RuleRef). x.rule) is.0 in (omega (arith, r), is.1, is.2)

    never : (chain : Chain) → BeginsAt files (record { file = file; rule = at }) left chain → ((other : Chain) → BeginsAt files (record { file = file; rule = at }) left other → Before other chain → ⊥) → (other : Chain) → BeginsIn files file at left other → Before other chain → ⊥
    never [] is none other begins before = is
    never (p ∷ ps) is none [] begins before = begins
    never (p ∷ ps) is none (q ∷ qs) begins before = elim (cases_lt at q.rule) [
      | inl later ↦
          let r = ap (λ (x : RuleRef). x.rule) is.0 in
          let f = ap (λ (x : RuleRef). x.file) is.0 in
          let g = leads_here files file q qs begins.1 in
          elim before [
            | inl first ↦ elim first [ inl files_less ↦ absurd (omega (arith, f, g, files_less)) | inr rules_less ↦ let l = rules_less.1 in absurd (omega (arith, r, l, later)) ]
            | inr same ↦ let e = ap (λ (x : RuleRef). x.rule) same.0 in absurd (omega (arith, r, e, later))
          ]
      | inr here ↦ let b = begins.0 in let same : q.rule ≡ at = omega (arith, b, here) in none (q ∷ qs) (begins_here file at left q qs same begins.1 begins.2) before
    ]

  pub deep_later : (file at left : ℕ) (found : Option RuleRef) → ((chain : Chain) → BeginsAt files (record { file = file; rule = at }) left chain → ⊥) → IsFirstEnd (BeginsIn files file (at + 1) left) found → IsFirstEnd (BeginsIn files file at left) found
  deep_later file at left found none rest = by_found found rest where
    on : (chain : Chain) → BeginsIn files file at left chain → BeginsIn files file (at + 1) left chain
    on [] is = is
    on (p ∷ ps) is = elim (cases_lt at p.rule) [
      | inl later ↦ (omega arith, is.1, is.2)
      | inr here ↦ let b = is.0 in let same : p.rule ≡ at = omega (arith, b, here) in absurd (none (p ∷ ps) (begins_here file at left p ps same is.1 is.2))
    ]

    back : (chain : Chain) → BeginsIn files file (at + 1) left chain → BeginsIn files file at left chain
    back [] is = is
    back (p ∷ ps) is = let b = is.0 in (omega (arith, b), is.1, is.2)

    by_found : (found : Option RuleRef) → IsFirstEnd (BeginsIn files file (at + 1) left) found → IsFirstEnd (BeginsIn files file at left) found
    by_found None no_chain = λ chain is. no_chain chain (on chain is)
    by_found (Some end) first = record { chain = first.chain; is = back first.chain first.is; last = first.last; none_before = λ other is before. first.none_before other (on other is) before }

  pub deep_end : (file at left : ℕ) (rules : List Rule) → rules ≡ rules_of files file → length rules ≤ at → IsFirstEnd (BeginsIn files file at left) None
  deep_end file at left rules are end [] is = is
  deep_end file at left rules are end (p ∷ ps) is =
      let first = first_rule files file p ps is.1 in
      let there : slice_get rules p.rule ≡ Some first.rule = rw are (subst (λ (f : ℕ). slice_get (rules_of files f) p.rule ≡ Some first.rule) first.in_file (in_rule files p first.rule first.is)) in
      let less = found_less rules p.rule first.rule there in
      let b = is.0 in absurd (omega (arith, less, b, end))

  -- ---- the whole

  deep_begins : (chain : Chain) → IsDeep files chain → BeginsIn files 0 0 9 chain
  deep_begins [] deep = deep.is_chain
  deep_begins (p ∷ ps) deep = (omega arith, deep.is_chain, deep.long)

  begins_deep : (chain : Chain) → BeginsIn files 0 0 9 chain → IsDeep files chain
  begins_deep [] is = absurd is
  begins_deep (p ∷ ps) is = record { is_chain = is.1; long = is.2 }

  pub none_deep : IsFirstEnd (BeginsIn files 0 0 9) None → (chain : Chain) → IsDeep files chain → ⊥
  none_deep none chain deep = none chain (deep_begins chain deep)

  pub end_there : (place : RuleRef) → EndsFirst (BeginsIn files 0 0 9) place → IsSome (rule_at files place)
  end_there place first = let last = last_there files 0 first.chain (begins_deep first.chain first.is).is_chain in ap (λ p. is_some (rule_at files p)) (sym first.last) ∙ ap is_some last.is

  pub first_deep : (place : RuleRef) (rule : Rule) (name : List ℕ) → EndsFirst (BeginsIn files 0 0 9) place → rule_at files place ≡ Some rule → name ≡ rule.name → IsFirstDeep files name
  first_deep place rule name first is named = record {
    chain = first.chain;
    deep = begins_deep first.chain first.is;
    none_before = λ other deep before. first.none_before other (deep_begins other deep) before;
    rule = rule;
    last = ap (rule_at files) first.last ∙ is;
    named = sym named;
  }

-- a front of a chain is a chain
front_leads : (files : List RuleFile) (n file : ℕ) (chain : Chain) → suc n ≤ length chain → Leads files file chain → Leads files file (take (suc n) chain)
front_leads files n file [] long leads = leads
front_leads files n file (p ∷ []) long leads = leads_one n where
  leads_one : (m : ℕ) → Leads files file (take (suc m) (p ∷ []))
  leads_one Nat.zero = leads
  leads_one (suc m) = leads
front_leads files Nat.zero file (p ∷ q ∷ qs) long leads = leads.0
front_leads files (suc n) file (p ∷ q ∷ qs) long leads = (leads.0, leads.1, front_leads files n q.file (q ∷ qs) (omega (arith, long)) leads.2)

pub all_shallow : (files : List RuleFile) → ((chain : Chain) → IsDeep files chain → ⊥) → AreShallow files
all_shallow files none chain leads = elim (cases_lt (length chain) 9) [
  | inl short ↦ short
  | inr long ↦ absurd (none (take 9 chain) (record { is_chain = front_leads files 8 0 chain long leads; long = length-take-le 9 chain long }))
]
