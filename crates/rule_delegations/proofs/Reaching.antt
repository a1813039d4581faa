-- The chains that the walk finds are the reached ones.
use Rattle.std.proofs.Common.{◌≡◌, ◌+◌, ◌≤◌, ℕ, suc, true, List, [], ◌∷◌, Option, Some, None, refl, sym, ap, subst, ◌∙◌, inl, inr, arith, length}
use Prim.Native.Nat as Nat
use Rattle.std.specs.Prelude.{slice_get}
use Rattle.std.specs.List.{AllByRecursion}
use Rattle.rule_files.specs.declared.rules.Rule.{Rule}
use Rattle.rule_files.specs.declared.rules.RuleFile.{RuleFile}
use Rattle.rule_delegations.specs.declared.places.RuleRef.{RuleRef}
use Rattle.rule_delegations.specs.Chains.{IsNamed, Leads, last_rule, rule_at}
use Rattle.rule_delegations.specs.Forests.{AreDistinct, IsPolicy, place_named, rules_of}
use Rattle.rule_delegations.specs.Reached.{AreReached, Matches, Name, Reached, Terminates, rule_matches}
use Rattle.rule_delegations.specs.Walks.{walk}
use Rattle.rule_delegations.proofs.Orders.{Chain}
use Rattle.rule_delegations.proofs.Families.{IsOpen}
use Rattle.rule_delegations.proofs.Naming.{in_rule, named_there, rule_in, there_named}
use Rattle.rule_delegations.proofs.Exact.{AtRule, InFile, InRules, IsAny, IsEnding, Under, file_exact}

-- what is asked of a chain's last rule
pub record LastIs (files : List RuleFile) (Last : Rule → Type 0) (chain : Chain) : Type 0 where
  pub rule : Rule
  pub is : last_rule files chain ≡ Some rule
  pub last : Last rule

-- a chain of matching rules from a file on, of at most so many
pub record IsLive (files : List RuleFile) (name : Name) (Last : Rule → Type 0) (most file : ℕ) (chain : Chain) : Type 0 where
  pub leads : Leads files file chain
  pub matches : AllByRecursion (Matches files name) chain
  pub short : length chain ≤ most
  pub ends : LastIs files Last chain

one_rule : (files : List RuleFile) (p : RuleRef) (a b : Rule) → rule_at files p ≡ Some a → rule_at files p ≡ Some b → a ≡ b
one_rule files p a b x y = cc

pub leads_here : (files : List RuleFile) (file : ℕ) (q : RuleRef) (qs : Chain) → Leads files file (q ∷ qs) → q.file ≡ file
leads_here files file q [] is = is.in_file
leads_here files file q (r ∷ rs) is = is.0.in_file

module _ (files : List RuleFile) (name : Name) (Last : Rule → Type 0) where
  -- one of a file's rules, counted from here
  record IsAt (into : ℕ → Chain → Type 0) (file at : ℕ) (rules : List Rule) (c : Chain) : Type 0 where
    pub step : ℕ
    pub rule : Rule
    pub is : slice_get rules step ≡ Some rule
    pub here : AtRule files name Last into (record { file = file; rule = at + step }) rule c

  at_index : (into : ℕ → Chain → Type 0) (file at : ℕ) (rules : List Rule) (c : Chain) → InRules files name Last into file at rules c → IsAt into file at rules c
  at_index into file at [] c is = absurd is
  at_index into file at (rule ∷ rules) c is = elim is [
    | inl here ↦
        let same : at ≡ at + 0 = omega arith in
        record { step = 0; rule = rule; is = refl; here = subst (λ (n : ℕ). AtRule files name Last into (record { file = file; rule = n }) rule c) same here }
    | inr later ↦
        let found = at_index into file (at + 1) rules c later in
        let same : at + 1 + found.step ≡ at + suc found.step = omega arith in
        record {
          step = suc found.step;
          rule = found.rule;
          is = found.is;
          here = subst (λ (n : ℕ). AtRule files name Last into (record { file = file; rule = n }) found.rule c) same found.here;
        }
  ]

  index_at : (into : ℕ → Chain → Type 0) (file at step : ℕ) (rule : Rule) (rules : List Rule) (c : Chain) → slice_get rules step ≡ Some rule
      → AtRule files name Last into (record { file = file; rule = at + step }) rule c → InRules files name Last into file at rules c
  index_at into file at step rule [] c is here = absurd (cc is)
  index_at into file at Nat.zero rule (r ∷ rules) c is here =
      let same : rule ≡ r = cc in
      let zero : at + 0 ≡ at = omega arith in
      inl (subst (λ (x : Rule). AtRule files name Last into (record { file = file; rule = at }) x c) same
      (subst (λ (n : ℕ). AtRule files name Last into (record { file = file; rule = n }) rule c) zero here))
  index_at into file at (suc step) rule (r ∷ rules) c is here =
      let same : at + suc step ≡ at + 1 + step = omega arith in
      inr (index_at into file (at + 1) step rule rules c is (subst (λ (n : ℕ). AtRule files name Last into (record { file = file; rule = n }) rule c) same here))

  -- what the walk finds is a chain
  module _ (n : ℕ) (below : (file : ℕ) (c : Chain) → InFile files name Last n file c → IsLive files name Last n file c) where
    under_live : (text : List ℕ) (q : RuleRef) (qs : Chain) (link : Option ℕ) → place_named files text ≡ link → Under files name (InFile files name Last n) link (q ∷ qs)
        → IsNamed files q.file text × IsLive files name Last n q.file (q ∷ qs)
    under_live text q qs None found is = absurd is
    under_live text q qs (Some at) found is =
        let live = below at (q ∷ qs) is in
        let same = leads_here files at q qs live.leads in
        (subst (λ (x : ℕ). IsNamed files x text) (sym same) (named_there files text at found), subst (λ (x : ℕ). IsLive files name Last n x (q ∷ qs)) (sym same) live)

    rule_live : (file at : ℕ) (rule : Rule) (c : Chain) → rule_at files (record { file = file; rule = at }) ≡ Some rule → AtRule files name Last (InFile files name Last n) (record { file = file; rule = at }) rule c
        → IsLive files name Last (suc n) file c
    rule_live file at rule [] is here = absurd here.1
    rule_live file at rule (q ∷ []) is here =
        let there : rule_at files q ≡ Some rule = ap (rule_at files) (sym here.1.0) ∙ is in
        record {
          leads = record { rule = rule; in_file = sym (ap (λ (x : RuleRef). x.file) here.1.0); is = there };
          matches = (record { rule = rule; is = there; matches = here.0 }, tt);
          short = omega arith;
          ends = record { rule = rule; is = there; last = here.1.1 };
        }
    rule_live file at rule (q ∷ r ∷ rs) is here =
        let there : rule_at files q ≡ Some rule = ap (rule_at files) (sym here.1.0) ∙ is in
        let (named, live) = under_live rule.name r rs (place_named files rule.name) refl here.1.1 in
        record {
          leads = (record { rule = rule; in_file = sym (ap (λ (x : RuleRef). x.file) here.1.0); is = there }, named, live.leads);
          matches = (record { rule = rule; is = there; matches = here.0 }, live.matches);
          short = let s = live.short in omega (arith, s);
          ends = record { rule = live.ends.rule; is = live.ends.is; last = live.ends.last };
        }

  pub found_live : (n file : ℕ) (c : Chain) → InFile files name Last n file c → IsLive files name Last n file c
  found_live Nat.zero file c is = absurd is
  found_live (suc n) file c is =
      let at = at_index (InFile files name Last n) file 0 (rules_of files file) c is in
      let same : 0 + at.step ≡ at.step = omega arith in
      let here = subst (λ (x : ℕ). AtRule files name Last (InFile files name Last n) (record { file = file; rule = x }) at.rule c) same at.here in
      rule_live n (found_live n) file at.step at.rule c (rule_in files file at.step at.rule at.is) here

  -- a chain is found by the walk
  module _ (distinct : AreDistinct files) where
    into_file : (n : ℕ) (p : RuleRef) (rule : Rule) (ps : Chain) → rule_at files p ≡ Some rule → AtRule files name Last (InFile files name Last n) p rule (p ∷ ps) → InFile files name Last (suc n) p.file (p ∷ ps)
    into_file n p rule ps is here =
        let same : p.rule ≡ 0 + p.rule = omega arith in
        index_at (InFile files name Last n) p.file 0 p.rule rule (rules_of files p.file) (p ∷ ps) (in_rule files p rule is)
        (subst (λ (x : ℕ). AtRule files name Last (InFile files name Last n) (record { file = p.file; rule = x }) rule (p ∷ ps)) same here)

    matches_rule : (p : RuleRef) (rule : Rule) → rule_at files p ≡ Some rule → Matches files name p → rule_matches name rule ≡ true
    matches_rule p rule is m = ap (rule_matches name) (one_rule files p rule m.rule is m.is) ∙ m.matches

    pub live_found : (n file : ℕ) (c : Chain) → IsLive files name Last n file c → InFile files name Last n file c
    live_found n file [] is = absurd is.leads
    live_found Nat.zero file (p ∷ ps) is = let s = is.short in absurd (omega (arith, s))
    live_found (suc n) file (p ∷ []) is =
        let first = is.leads in
        let ending : Last first.rule = subst Last (one_rule files p is.ends.rule first.rule is.ends.is first.is) is.ends.last in
        subst (λ (x : ℕ). InFile files name Last (suc n) x (p ∷ [])) first.in_file
        (into_file n p first.rule [] first.is (matches_rule p first.rule first.is is.matches.0, (refl, ending)))
    live_found (suc n) file (p ∷ q ∷ qs) is =
        let (first, named, more) = is.leads in
        let s = is.short in
        let rest = live_found n q.file (q ∷ qs) (record { leads = more; matches = is.matches.1; short = omega (arith, s); ends = record { rule = is.ends.rule; is = is.ends.is; last = is.ends.last } }) in
        let under : Under files name (InFile files name Last n) (place_named files first.rule.name) (q ∷ qs) =
        subst (λ (x : Option ℕ). Under files name (InFile files name Last n) x (q ∷ qs)) (sym (there_named files first.rule.name q.file distinct named)) rest in
        subst (λ (x : ℕ). InFile files name Last (suc n) x (p ∷ q ∷ qs)) first.in_file
        (into_file n p first.rule (q ∷ qs) first.is (matches_rule p first.rule first.is is.matches.0, (refl, under)))

-- every chain has a last rule
pub last_there : (files : List RuleFile) (file : ℕ) (c : Chain) → Leads files file c → LastIs files IsAny c
last_there files file [] is = absurd is
last_there files file (p ∷ []) is = record { rule = is.rule; is = is.is; last = tt }
last_there files file (p ∷ q ∷ qs) is = let rest = last_there files q.file (q ∷ qs) is.2 in record { rule = rest.rule; is = rest.is; last = tt }

module _ (files : List RuleFile) (name : Name) (policy : IsPolicy files) where
  short_chain : (c : Chain) → Leads files 0 c → length c ≤ 8
  short_chain c is = let s = policy.shallow c is in omega (arith, s)

  ending_stops : (c : Chain) → Leads files 0 c → AllByRecursion (Matches files name) c → Terminates files c → InFile files name IsEnding 8 0 c
  ending_stops c leads matches ends = live_found files name IsEnding policy.distinct 8 0 c
      (record { leads = leads; matches = matches; short = short_chain c leads; ends = record { rule = ends.rule; is = ends.is; last = ends.terminating } })

  pub found_reached : (c : Chain) → InFile files name IsAny 8 0 c → IsOpen (InFile files name IsEnding 8 0) c → Reached files name c
  found_reached c is free =
      let live = found_live files name IsAny 8 0 c is in
      record {
        is_chain = live.leads;
        matches = live.matches;
        unstopped = λ other leads before no_prefix matches ends. free other (ending_stops other leads matches ends) before no_prefix;
      }

  pub reached_live : (c : Chain) → Reached files name c → InFile files name IsAny 8 0 c
  reached_live c is = live_found files name IsAny policy.distinct 8 0 c
      (record { leads = is.is_chain; matches = is.matches; short = short_chain c is.is_chain; ends = last_there files 0 c is.is_chain })

  pub reached_open : (c : Chain) → Reached files name c → IsOpen (InFile files name IsEnding 8 0) c
  reached_open c is other stops before no_prefix =
      let live = found_live files name IsEnding 8 0 other stops in
      is.unstopped other live.leads before no_prefix live.matches (record { rule = live.ends.rule; is = live.ends.is; terminating = live.ends.last })

  -- what the walk finds is what is reached
  pub walk_reaches : AreReached files name (walk files name 8 0).places
  walk_reaches =
      let exact = file_exact files name 8 0 in
      record {
        chains = (walk files name 8 0).chains;
        reached = λ c h. found_reached c (exact.live c h) (exact.unstopped c h);
        all = λ c is. exact.all c (reached_live c is) (reached_open c is);
        in_order = exact.in_order;
        lasts = exact.lasts;
      }
