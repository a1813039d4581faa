use Rattle.std.proofs.Common.{rules}
use Rattle.keeper_layers.proofs.Clashing.{clash_one, clash_push}
use Rattle.keeper_layers.proofs.replacing.replaces.Goals as goal

pub objects-preserved : goal.objects-preserved
objects-preserved g c = record {
  none = λ r told. clash_push r c.args.objects.now c.objects.object-index c.object-item.result c.objects-test.true c.object-item.is
      (c.objects.invariant.none r (c.in_ok-clashes.ensures.same.content r told)) (c.in_ok-clashes.ensures.none c.if-branch.false r told);
  same = search rules;
  quiet = search rules;
}

pub returns-then-branch-clause-some : goal.returns-then-branch-clause-some
returns-then-branch-clause-some g c = λ yes r told.
    clash_one r c.args.objects.now c.objects.object-index c.object-item.result c.objects-test.true c.object-item.is
    (c.in_ok-clashes.ensures.some c.if-branch.true r told)
