use Rattle.std.proofs.Common.{get_or, refl, arith}
use Rattle.rule_delegations.specs.declared.places.RuleRef.{RuleRef}
use Rattle.global_rules.proofs.Maxima.{all_counted, more_counted}
use Rattle.global_rules.proofs.greatest.greatest_at.Goals as goal

pub places-init : goal.places-init
places-init c = omega arith

pub places-preserved : goal.places-preserved
places-preserved c =
    let first : RuleRef = record { file = 0; rule = 0 } in
    more_counted c.args.rules.now c.args.signers.now c.args.places.now c.places.place-index c.places.most c.count_at.result c.greater-most.result first (get_or c.args.places.now c.places.place-index first) c.places-test.true refl
    c.count_at.ensures c.greater-most.ensures c.places.invariant

pub returns : goal.returns
returns c = all_counted c.args.rules.now c.args.signers.now c.args.places.now c.places.place-index c.places.most c.places-test.false c.places.invariant
