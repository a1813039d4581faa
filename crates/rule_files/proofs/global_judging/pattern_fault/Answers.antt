use Rattle.std.proofs.Common.{◌≡◌, ◌<◌, ◌+◌, ℕ, List, ◌∷◌, Option, None, suc, drop, get_or, length, sym, ap, ◌∙◌, arith}
use Rattle.std.specs.Prelude.{not}
use Rattle.std.specs.List.{position}
use Rattle.std.proofs.Math.Seq.{drop-cons}
use Rattle.root_metadata.specs.Judged.{at_place, or_next}
use Rattle.rule_files.specs.GlobalFiles.{may_stand, pattern_fault_from}
use Rattle.rule_files.specs.declared.global_faults.GlobalFault.TheVariants.{BadPattern}
use Rattle.rule_files.specs.declared.global_raw.RawGlobalRule.{RawGlobalRule}
use Rattle.rule_files.proofs.global_judging.pattern_fault.Goals as goal

-- a rule in which each pattern may stand has no fault
passes : (rules : List RawGlobalRule) (i at : ℕ) (rule : RawGlobalRule) (texts : List (List ℕ)) (found : Option ℕ) → i < length rules → rule ≡ get_or rules i rule
    → texts ≡ rule.paths → found ≡ position (λ text. not (may_stand rule.kind text)) texts → found ≡ None
    → pattern_fault_from at (drop i rules) ≡ pattern_fault_from (at + 1) (drop (i + 1) rules)
passes rules i at rule texts found within is paths made none =
    let next : i + 1 ≡ suc i = omega arith in
    let split : drop i rules ≡ rule ∷ drop (i + 1) rules =
    drop-cons rules i rule within ∙ ap (λ (r : RawGlobalRule). r ∷ drop (suc i) rules) (sym is) ∙ ap (λ (n : ℕ). rule ∷ drop n rules) (sym next) in
    let nothing : position (λ text. not (may_stand rule.kind text)) rule.paths ≡ None =
    ap (position (λ text. not (may_stand rule.kind text))) (sym paths) ∙ sym made ∙ none in
    ap (pattern_fault_from at) split
    ∙ ap (λ (o : Option ℕ). or_next (at_place (BadPattern at) o) (pattern_fault_from (at + 1) (drop (i + 1) rules))) nothing

pub rules-preserved : goal.rules-preserved
rules-preserved c = (
  sym (passes c.args.rules.now c.rules.rule-index c.rules.at c.rule-item.result c.as_slice.result.now c.bad_pattern.result c.rules-test.true c.rule-item.is
      c.as_slice.ensures c.bad_pattern.ensures c.in_default.is) ∙ c.rules.invariant.0,
  ap (λ (n : ℕ). n + 1) c.rules.invariant.1,
)
