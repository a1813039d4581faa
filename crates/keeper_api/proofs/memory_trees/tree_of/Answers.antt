use Rattle.std.proofs.Common.{ap, subst, false, true, ◌∙◌}
use Rattle.std.specs.FinMap.{empty, from_entries}
use Rattle.keeper_api.specs.Changes.{with_objects}
use Rattle.keeper_api.specs.Halves.{AreNew, half}
use Rattle.keeper_api.proofs.Halving.{halves}
use Rattle.keeper_api.proofs.memory_trees.tree_of.Goals as goal

pub returns-then-branch-2 : goal.returns-then-branch-2
returns-then-branch-2 c =
    let pairs = c.args.objects.now in
    let one = c.in_ok-keep_half.ensures c.if-branch.true in
    let two = c.in_ok-keep_half-2.ensures c.if-branch-2.true in
    let begun = one.0 ∙ ap (with_objects (half true pairs)) (ap from_entries c.new-tree.ensures.empty) in
    two.0 ∙ ap (with_objects (half false pairs)) begun ∙ halves true pairs empty (subst (AreNew (half false pairs)) begun two.1)
