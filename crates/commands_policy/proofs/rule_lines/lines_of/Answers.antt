use Rattle.std.proofs.Common.{◌∙◌, get_or, refl, sym}
use Rattle.std.proofs.lemmas.Result.{IfOk-weaker}
use Rattle.rule_delegations.specs.declared.places.RuleRef.{RuleRef}
use Rattle.commands_policy.proofs.Listed.{all_listed, none_listed, none_told, one_more}
use Rattle.commands_policy.proofs.rule_lines.lines_of.Goals as goal

pub returns-then-is_empty : goal.returns-then-is_empty
returns-then-is_empty c =
    IfOk-weaker c.from_slice.result _ _ (λ text is. none_told c.args.rules.now c.args.places.now text (sym c.is_empty.ensures ∙ c.if-is_empty.true) is) c.from_slice.ensures

pub places-init : goal.places-init
places-init c = none_listed c.args.rules.now c.new-text.result c.new-text.ensures

pub places-preserved : goal.places-preserved
places-preserved c =
    let first : RuleRef = record { file = 0; rule = 0 } in
    one_more c.args.rules.now c.args.places.now c.places.place-index (get_or c.args.places.now c.places.place-index first) first c.rule.result.now c.places.text c.append_rule.new.text c.places-test.true refl c.places.invariant c.rule.ensures c.in-Ok.ensures

pub returns : goal.returns
returns c = all_listed c.args.rules.now c.args.places.now c.places.place-index c.places.text (sym c.is_empty.ensures ∙ c.if-is_empty.false) c.places-test.false c.places.invariant
