-- The steps of the search over one file.
use Rattle.std.proofs.Common.{◌≡◌, ◌++◌, ◌+◌, ◌-◌, ◌||◌, ℕ, suc, Bool, true, false, List, [], ◌∷◌, Some, refl, sym, ap, ◌∙◌, ◌<◌, ◌≤◌, arith, add-one, cond, length, drop, drop-cons, get_or, append_assoc}
use Prim.Native.Nat as Nat
use Rattle.std.proofs.Math.ListN.{drop_of_length-le}
use Rattle.std.proofs.lemmas.List.{append-nil}
use Rattle.std.proofs.lemmas.Option.{slice_get_read}
use Rattle.rule_files.specs.declared.rules.Rule.{Rule}
use Rattle.rule_files.specs.declared.rules.RuleFile.{RuleFile}
use Rattle.rule_delegations.specs.declared.places.RuleRef.{RuleRef}
use Rattle.rule_delegations.specs.Chains.{rule_at}
use Rattle.rule_delegations.specs.Forests.{place_named, rules_of}
use Rattle.rule_delegations.specs.Reached.{Name}
use Rattle.rule_delegations.proofs.Naming.{rule_in}
use Rattle.rule_delegations.specs.Walks.{Adds, Found, GoesOn, nothing, one_rule, then_found, walk, walk_rules}

pub adds_nothing : (old : List RuleRef) → Adds old old false nothing
adds_nothing old = record { added = sym (append-nil old); ended = refl }

pub no_level : (files : List RuleFile) (name : Name) (left file : ℕ) → left ≡ 0 → walk files name left file ≡ nothing
unfolding walk
no_level files name Nat.zero file is = refl
no_level files name (suc left) file is = absurd (omega (arith, is))

pub one_level : (files : List RuleFile) (name : Name) (left file : ℕ) → (left ≡ 0 → ⊥)
    → walk files name left file ≡ walk_rules (walk files name (left - 1)) (place_named files) name file 0 (rules_of files file)
unfolding walk
one_level files name Nat.zero file some = absurd (some refl)
one_level files name (suc left) file some =
    let less : left ≡ suc left - 1 = omega arith in
    ap (λ (n : ℕ). walk_rules (walk files name n) (place_named files) name file 0 (rules_of files file)) less

-- the rule that a file's rules have at a place
pub rule_there : (files : List RuleFile) (file at : ℕ) (rules : List Rule) (rule : Rule) → rules ≡ rules_of files file → at < length rules → rule ≡ get_or rules at rule
    → rule_at files (record { file = file; rule = at }) ≡ Some rule
rule_there files file at rules rule are less is = rule_in files file at rule (rw (← are) (slice_get_read rules _ at rule refl less is))

adds_then : (old mid new : List RuleRef) (stopped : Bool) (first rest : Found) → Adds old mid false first → Adds mid new stopped rest → Adds old new stopped (then_found first rest)
adds_then old mid new stopped first rest a b = record {
  added = b.added ∙ ap (λ (x : List RuleRef). x ++ rest.places) a.added ∙ append_assoc old first.places rest.places
      ∙ ap (λ (s : Bool). old ++ cond s first.places (first.places ++ rest.places)) a.ended;
  ended = b.ended ∙ ap (λ s. s || rest.stopped) a.ended;
}

adds_stop : (old new : List RuleRef) (first rest : Found) → Adds old new true first → Adds old new true (then_found first rest)
adds_stop old new first rest a = record {
  added = a.added ∙ ap (λ (s : Bool). old ++ cond s first.places (first.places ++ rest.places)) a.ended;
  ended = ap (λ s. s || rest.stopped) a.ended;
}

pub starts : (files : List RuleFile) (name : Name) (left file : ℕ) (rules : List Rule) (old : List RuleRef) → (left ≡ 0 → ⊥) → rules ≡ rules_of files file
    → GoesOn old (walk files name left file) old (walk_rules (walk files name (left - 1)) (place_named files) name file 0 rules)
starts files name left file rules old some is end stopped a = rw (one_level files name left file some) (rw is at a)

module _ (files : List RuleFile) (name : Name) (left file : ℕ) (rules : List Rule) (old : List RuleRef) where
  -- what is found below a rule, and the rules of the file from this one on
  abbrev found_here : Rule → ℕ → Found
  found_here rule at = one_rule (walk files name (left - 1)) (place_named files) name (record { file = file; rule = at }) rule

  abbrev found_from : ℕ → Found
  found_from at = walk_rules (walk files name (left - 1)) (place_named files) name file at (drop at rules)

  pub next : (at : ℕ) (rule : Rule) → at < length rules → rule ≡ get_or rules at rule
      → found_from at ≡ then_found (found_here rule at) (found_from (at + 1))
  next at rule less is =
      let parts : drop at rules ≡ rule ∷ drop (at + 1) rules = rw (add-one, drop-cons rules at rule, ← is) refl in
      rw parts refl

  pub goes_on : (now new : List RuleRef) (at : ℕ) (rule : Rule) (stopped : Bool) → at < length rules → rule ≡ get_or rules at rule → GoesOn old (walk files name left file) now (found_from at)
      → Adds now new stopped (found_here rule at) → stopped ≡ false → GoesOn old (walk files name left file) new (found_from (at + 1))
  goes_on now new at rule ended less is goes here no_end end stopped a = goes end stopped (rw (next at rule less is) (adds_then now new end stopped _ _ (rw no_end at here) a))

  pub stops_here : (now new : List RuleRef) (at : ℕ) (rule : Rule) (stopped : Bool) → at < length rules → rule ≡ get_or rules at rule → GoesOn old (walk files name left file) now (found_from at)
      → Adds now new stopped (found_here rule at) → stopped ≡ true → Adds old new true (walk files name left file)
  stops_here now new at rule stopped less is goes here ended = goes new true (rw (next at rule less is) (adds_stop now new _ _ (rw ended at here)))

  pub ends_here : (now : List RuleRef) (at : ℕ) → length rules ≤ at → GoesOn old (walk files name left file) now (found_from at) → Adds old now false (walk files name left file)
  ends_here now at more goes = goes now false (let none : drop at rules ≡ [] = drop_of_length-le rules more in rw none (adds_nothing now))
