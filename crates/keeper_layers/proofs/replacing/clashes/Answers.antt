use Rattle.keeper_layers.proofs.Clashing.{clash_missing, clash_other, clash_some, not_false, not_true}
use Rattle.keeper_layers.proofs.replacing.clashes.Goals as goal

pub returns-in-Some-clause-none : goal.returns-in-Some-clause-none
returns-in-Some-clause-none g c = λ no r told.
    clash_some r c.args.object.now c.in-Some.kept c.id.result c.in_ok-kept.field-0 c.id.ensures c.in-Some.is (c.in_ok-kept.ensures.found r told)
    (c.is_same.ensures.0 (not_false c.is_same.result no))

pub returns-in-None-clause-none : goal.returns-in-None-clause-none
returns-in-None-clause-none g c = λ no r told.
    clash_missing r c.args.object.now c.id.result c.in_ok-kept.field-0 c.id.ensures c.in-None.is (c.in_ok-kept.ensures.none r told)

pub returns-in-Some-clause-some : goal.returns-in-Some-clause-some
returns-in-Some-clause-some g c = λ yes r told.
    clash_other r c.args.object.now c.in-Some.kept c.id.result c.in_ok-kept.field-0 c.id.ensures c.in-Some.is (c.in_ok-kept.ensures.found r told)
    (λ same. not_true c.is_same.result yes (c.is_same.ensures.1 same))
