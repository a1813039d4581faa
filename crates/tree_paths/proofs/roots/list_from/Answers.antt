use Rattle.std.proofs.Common.{sym, ◌∙◌, []}
use Rattle.tree_paths.specs.Walks.{Grown, steps}
use Rattle.tree_paths.proofs.Judging.{counted_is}
use Rattle.tree_paths.proofs.Turns.{sides_from}
use Rattle.tree_paths.proofs.roots.list_from.Goals as goal

pub returns-in-Counted-clause-sides : goal.returns-in-Counted-clause-sides
returns-in-Counted-clause-sides g c = λ readings told.
    let grown : Grown 32 c.no_counts.result (g.R.Keeper.reads c.args.keeper.now) c.in-Counted.counts (g.R.Keeper.reads c.list_tree.new.keeper) = counted_is _ c.in_ok-bad.field-0 c.in-Counted.counts c.in_ok-bad.ensures.grown c.in-Counted.is in
    sides_from readings.trees (steps readings.trees 32 [] c.args.tree.now) c.no_counts.result c.in-Counted.counts c.args.paths.now c.list_tree.new.paths
    (g.R.Keeper.reads c.args.keeper.now) (g.R.Keeper.reads c.list_tree.new.keeper)
    (sym (c.in_ok-bad.ensures.steps readings told) ∙ c.in-Counted.is)
    (counted_is _ c.in_ok-bad.field-0 c.in-Counted.counts c.in_ok-bad.ensures.listed c.in-Counted.is readings told) grown.spent
