-- What the search tells of a rule and of what follows it.
use Rattle.std.proofs.Common.{◌≡◌, ◌⊎◌, ◌+◌, ◌-◌, ◌++◌, ◌||◌, ◌<◌, ℕ, Bool, true, false, cond, List, [], ◌∷◌, Option, Some, None, refl, sym, ap, ◌∙◌, length, map, inl, inr, drop, get_or}
use Rattle.std.specs.Prelude.{is_some, not, IsTrue}
use Rattle.std.specs.Option.{option_map_or}
use Rattle.std.specs.List.{list_any}
use Rattle.std.proofs.lemmas.Bool.{false≢true, le-leb, leb-true}
use Rattle.std.proofs.lemmas.List.Folds.{list_any-append}
use Rattle.root_metadata.specs.Persons.{count_in}
use Rattle.rule_files.specs.declared.rules.Rule.{Rule}
use Rattle.rule_files.specs.declared.rules.RuleFile.{RuleFile}
use Rattle.rule_delegations.specs.declared.meeting.Told.{Told}
use Rattle.rule_delegations.specs.declared.meeting.Told.TheVariants.{Met, Stopped, Passed}
use Rattle.rule_delegations.specs.declared.places.RuleRef.{RuleRef}
use Rattle.rule_delegations.specs.Chains.{last_place, last_rule, rule_at}
use Rattle.rule_delegations.specs.Forests.{IsPolicy, place_named, rules_of}
use Rattle.rule_delegations.specs.Reached.{Holds, IsFirstReached, MayAct, Meets, Name, Reached, is_listed}
use Rattle.rule_delegations.specs.Walks.{Found, is_enough, one_rule, passes_at, then_found, told, walk, walk_rules}
use Rattle.rule_delegations.proofs.Orders.{Chain}
use Rattle.rule_delegations.proofs.Reaching.{last_there, walk_reaches}
use Rattle.rule_delegations.proofs.Turns.{next, no_level, one_level}

-- where nothing is told, none is met and the search did not end
none_met : (met stopped : Bool) → cond met Met (cond stopped Stopped Passed) ≡ Passed → met ≡ false
none_met true stopped e = absurd (cc e)
none_met false stopped e = refl

not_stopped : (met stopped : Bool) → cond met Met (cond stopped Stopped Passed) ≡ Passed → stopped ≡ false
not_stopped true stopped e = absurd (cc e)
not_stopped false true e = absurd (cc e)
not_stopped false false e = refl

module _ (files : List RuleFile) (test : Rule → Bool) where
  pub told_passes : (first rest : Found) → told files test first ≡ Passed → told files test (then_found first rest) ≡ told files test rest
  told_passes first rest passed =
      let m : list_any (passes_at files test) first.places ≡ false = none_met _ first.stopped passed in
      let s : first.stopped ≡ false = not_stopped (list_any (passes_at files test) first.places) first.stopped passed in
      ap (λ (b : Bool). cond (list_any (passes_at files test) (cond b first.places (first.places ++ rest.places))) Met (cond (b || rest.stopped) Stopped Passed)) s
      ∙ ap (λ (b : Bool). cond b Met (cond rest.stopped Stopped Passed)) (list_any-append (passes_at files test) first.places rest.places)
      ∙ ap (λ (b : Bool). cond (b || list_any (passes_at files test) rest.places) Met (cond rest.stopped Stopped Passed)) m

  pub told_stays : (first rest : Found) → (told files test first ≡ Passed → ⊥) → told files test (then_found first rest) ≡ told files test first
  told_stays first rest never = by_end first.stopped (list_any (passes_at files test) first.places) refl refl where
    by_end : (s m : Bool) → first.stopped ≡ s → list_any (passes_at files test) first.places ≡ m → told files test (then_found first rest) ≡ told files test first
    by_end true m ends met =
        ap (λ (b : Bool). cond (list_any (passes_at files test) (cond b first.places (first.places ++ rest.places))) Met (cond (b || rest.stopped) Stopped Passed)) ends
        ∙ ap (λ (b : Bool). cond (list_any (passes_at files test) first.places) Met (cond b Stopped Passed)) (sym ends)
    by_end false true ends met =
        ap (λ (b : Bool). cond (list_any (passes_at files test) (cond b first.places (first.places ++ rest.places))) Met (cond (b || rest.stopped) Stopped Passed)) ends
        ∙ ap (λ (b : Bool). cond b Met (cond rest.stopped Stopped Passed)) (list_any-append (passes_at files test) first.places rest.places)
        ∙ ap (λ (b : Bool). cond (b || list_any (passes_at files test) rest.places) Met (cond rest.stopped Stopped Passed)) met
        ∙ ap (λ (b : Bool). cond b Met (cond first.stopped Stopped Passed)) (sym met)
    by_end false false ends met =
        absurd (never (ap (λ (b : Bool). cond b Met (cond first.stopped Stopped Passed)) met ∙ ap (λ (b : Bool). cond b Stopped Passed) ends))

  pub passes_here : (place : RuleRef) (rule : Rule) → rule_at files place ≡ Some rule → passes_at files test place ≡ test rule
  passes_here place rule is = ap (λ (x : Option Rule). option_map_or test x false) is

  pub tells_nothing : (name : Name) (left file : ℕ) → left ≡ 0 → Passed ≡ told files test (walk files name left file)
  tells_nothing name left file is = ap (told files test) (sym (no_level files name left file is))

  pub tells_all : (name : Name) (left file : ℕ) (rules : List Rule) → (left ≡ 0 → ⊥) → rules ≡ rules_of files file
      → told files test (walk files name left file) ≡ told files test (walk_rules (walk files name (left - 1)) (place_named files) name file 0 rules)
  tells_all name left file rules some is =
      ap (told files test) (one_level files name left file some)
      ∙ ap (λ (rs : List Rule). told files test (walk_rules (walk files name (left - 1)) (place_named files) name file 0 rs)) (sym is)

  module _ (name : Name) (left file : ℕ) (rules : List Rule) (at : ℕ) (rule : Rule) (tells : Told) (less : at < length rules) (is : rule ≡ get_or rules at rule)
      (invariant : told files test (walk files name left file) ≡ told files test (walk_rules (walk files name (left - 1)) (place_named files) name file at (drop at rules)))
      (here : tells ≡ told files test (one_rule (walk files name (left - 1)) (place_named files) name (record { file = file; rule = at }) rule)) where
    pub tells_on : tells ≡ Passed
        → told files test (walk files name left file) ≡ told files test (walk_rules (walk files name (left - 1)) (place_named files) name file (at + 1) (drop (at + 1) rules))
    tells_on passed = invariant ∙ ap (told files test) (next files name left file rules [] at rule less is) ∙ told_passes (one_rule (walk files name (left - 1)) (place_named files) name (record { file = file; rule = at }) rule)
        (walk_rules (walk files name (left - 1)) (place_named files) name file (at + 1) (drop (at + 1) rules)) (sym here ∙ passed)

    pub tells_here : (tells ≡ Passed → ⊥) → tells ≡ told files test (walk files name left file)
    tells_here never = here ∙ sym (told_stays (one_rule (walk files name (left - 1)) (place_named files) name (record { file = file; rule = at }) rule)
        (walk_rules (walk files name (left - 1)) (place_named files) name file (at + 1) (drop (at + 1) rules)) (λ e. never (here ∙ e)))
        ∙ sym (invariant ∙ ap (told files test) (next files name left file rules [] at rule less is))

-- ---- a rule that is met

find_met : (test : RuleRef → Bool) (chains : List Chain) → list_any test (map last_place chains) ≡ true → (c : Chain) × Holds chains c × (test (last_place c) ≡ true)
find_met test [] e = absurd (false≢true e)
find_met test (c ∷ cs) e = by_first (test (last_place c)) refl (find_met test cs) e where
  by_first : (b : Bool) → test (last_place c) ≡ b → (list_any test (map last_place cs) ≡ true → (d : Chain) × Holds cs d × (test (last_place d) ≡ true)) → (b || list_any test (map last_place cs)) ≡ true
      → (d : Chain) × Holds (c ∷ cs) d × (test (last_place d) ≡ true)
  by_first true is later h = (c, inl refl, is)
  by_first false is later h = let (d, held, met) = later h in (d, inr held, met)

met_found : (test : RuleRef → Bool) (chains : List Chain) (c : Chain) → Holds chains c → test (last_place c) ≡ true → list_any test (map last_place chains) ≡ true
met_found test [] c held is = absurd held
met_found test (d ∷ ds) c held is = elim held [
  | inl here ↦ ap (λ b. b || list_any test (map last_place ds)) (ap (λ (x : Chain). test (last_place x)) here ∙ is)
  | inr later ↦ ap (λ b. test (last_place d) || b) (met_found test ds c later is) ∙ or_true (test (last_place d))
] where
  or_true : (b : Bool) → (b || true) ≡ true
  or_true true = refl
  or_true false = refl

is_told_met : (met stopped : Bool) → Met ≡ cond met Met (cond stopped Stopped Passed) → met ≡ true
is_told_met true stopped e = refl
is_told_met false true e = absurd (cc e)
is_told_met false false e = absurd (cc e)

-- a reached chain's last rule passes a test
pub record Passes (files : List RuleFile) (name : Name) (test : Rule → Bool) (chain : Chain) : Type 0 where
  pub reached : Reached files name chain
  pub rule : Rule
  pub is : last_rule files chain ≡ Some rule
  pub passes : test rule ≡ true

module _ (files : List RuleFile) (name : Name) (test : Rule → Bool) (policy : IsPolicy files) where
  -- a place that the search finds passes, and then the last rule of a reached chain does
  pub some_passes : list_any (passes_at files test) (walk files name 8 0).places ≡ true → (c : Chain) × Passes files name test c
  some_passes any =
      let are = walk_reaches files name policy in
      let (c, held, met) = find_met (passes_at files test) are.chains (ap (list_any (passes_at files test)) (sym are.lasts) ∙ any) in
      let reached = are.reached c held in
      let last = last_there files 0 c reached.is_chain in
      (c, record { reached = reached; rule = last.rule; is = last.is; passes = sym (passes_here files test (last_place c) last.rule last.is) ∙ met })

  pub passes_some : (c : Chain) → Passes files name test c → list_any (passes_at files test) (walk files name 8 0).places ≡ true
  passes_some chain is =
      let are = walk_reaches files name policy in
      let met : passes_at files test (last_place chain) ≡ true = passes_here files test (last_place chain) is.rule is.is ∙ is.passes in
      ap (list_any (passes_at files test)) are.lasts ∙ met_found (passes_at files test) are.chains chain (are.all chain is.reached) met

  passed : Met ≡ told files test (walk files name 8 0) → (c : Chain) × Passes files name test c
  passed is = some_passes (is_told_met _ (walk files name 8 0).stopped is)

  not_passed : (Met ≡ told files test (walk files name 8 0) → ⊥) → (c : Chain) → Passes files name test c → ⊥
  not_passed never chain is = never (sym (ap (λ (b : Bool). cond b Met (cond (walk files name 8 0).stopped Stopped Passed)) (passes_some chain is)))

-- none is reached, or the last rule of one that is passes
abbrev pub Either : List RuleFile → Name → (Rule → Bool) → Type 0
Either files name test = ((chain : Chain) → Reached files name chain → ⊥) ⊎ ((chain : Chain) × Passes files name test chain)

module _ (files : List RuleFile) (name : Name) (test : Rule → Bool) (policy : IsPolicy files) where
  -- where no rule passes, one does or none is reached exactly where none is reached
  either_first : (first : Option RuleRef) (none : Bool) → is_some first ≡ not none → IsFirstReached files name first → (Met ≡ told files test (walk files name 8 0) → ⊥)
      → (IsTrue none → Either files name test) × (Either files name test → IsTrue none)
  either_first None true is reached never = (λ t. inl reached, λ m. refl)
  either_first None false is reached never = absurd (cc is)
  either_first (Some place) true is reached never = absurd (cc is)
  either_first (Some place) false is reached never = (
    λ t. absurd (false≢true t),
    λ m. elim m [ inl no_chain ↦ absurd (no_chain reached.0 reached.1.reached) | inr some ↦ absurd (not_passed files name test policy never some.0 some.1) ],
  )

pub met_either : (files : List RuleFile) (name : Name) (signers : List (List ℕ)) → Meets files name signers → Either files name (is_enough signers)
met_either files name signers meets = elim meets [
  | inl no_chain ↦ inl no_chain
  | inr some ↦ let (chain, is) = some in inr (chain, record { reached = is.reached; rule = is.rule; is = is.is; passes = le-leb is.rule.threshold (count_in is.rule.persons signers) is.enough })
]

pub either_met : (files : List RuleFile) (name : Name) (signers : List (List ℕ)) → Either files name (is_enough signers) → Meets files name signers
either_met files name signers either = elim either [
  | inl no_chain ↦ inl no_chain
  | inr some ↦ let (chain, is) = some in inr (chain, record { reached = is.reached; rule = is.rule; is = is.is; enough = leb-true is.rule.threshold (count_in is.rule.persons signers) is.passes })
]

pub listed_either : (files : List RuleFile) (name : Name) (key : List ℕ) → MayAct files name key → Either files name (λ rule. is_listed rule.persons key)
listed_either files name key may = elim may [
  | inl no_chain ↦ inl no_chain
  | inr some ↦ let (chain, is) = some in inr (chain, record { reached = is.reached; rule = is.rule; is = is.is; passes = is.listed })
]

pub either_listed : (files : List RuleFile) (name : Name) (key : List ℕ) → Either files name (λ rule. is_listed rule.persons key) → MayAct files name key
either_listed files name key either = elim either [
  | inl no_chain ↦ inl no_chain
  | inr some ↦ let (chain, is) = some in inr (chain, record { reached = is.reached; rule = is.rule; is = is.is; listed = is.passes })
]

module _ (files : List RuleFile) (name : Name) (signers : List (List ℕ)) (policy : IsPolicy files) where
  pub met_meets : Met ≡ told files (is_enough signers) (walk files name 8 0) → Meets files name signers
  met_meets is = either_met files name signers (inr (passed files name (is_enough signers) policy is))

  -- where no rule is met, the name is met exactly where none is reached
  pub by_first : (first : Option RuleRef) (none : Bool) → is_some first ≡ not none → IsFirstReached files name first → (Met ≡ told files (is_enough signers) (walk files name 8 0) → ⊥)
      → (IsTrue none → Meets files name signers) × (Meets files name signers → IsTrue none)
  by_first first none is reached never =
      let e = either_first files name (is_enough signers) policy first none is reached never in
      (λ t. either_met files name signers (e.0 t), λ m. e.1 (met_either files name signers m))

module _ (files : List RuleFile) (name : Name) (key : List ℕ) (policy : IsPolicy files) where
  pub listed_may : Met ≡ told files (λ rule. is_listed rule.persons key) (walk files name 8 0) → MayAct files name key
  listed_may is = either_listed files name key (inr (passed files name (λ rule. is_listed rule.persons key) policy is))

  -- where no rule lists the key, it may act exactly where none is reached
  pub may_by_first : (first : Option RuleRef) (none : Bool) → is_some first ≡ not none → IsFirstReached files name first → (Met ≡ told files (λ rule. is_listed rule.persons key) (walk files name 8 0) → ⊥)
      → (IsTrue none → MayAct files name key) × (MayAct files name key → IsTrue none)
  may_by_first first none is reached never =
      let e = either_first files name (λ rule. is_listed rule.persons key) policy first none is reached never in
      (λ t. either_listed files name key (e.0 t), λ m. e.1 (listed_either files name key m))
