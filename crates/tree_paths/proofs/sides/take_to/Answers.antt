use Rattle.std.proofs.Common.{sym, ◌∙◌, ◌-◌}
use Rattle.tree_paths.specs.Walks.{Grown, steps}
use Rattle.tree_paths.proofs.Judging.{counted_is, piece_of}
use Rattle.tree_paths.proofs.Turns.{sides_to}
use Rattle.tree_paths.proofs.sides.take_to.Goals as goal

pub returns-in-Counted-clause-sides : goal.returns-in-Counted-clause-sides
returns-in-Counted-clause-sides g c = λ readings told.
    let grown : Grown 0 c.args.counts.to (g.R.Keeper.reads c.args.keeper.now) c.in-Counted.next (g.R.Keeper.reads c.list_entry.new.keeper) = counted_is _ c.in_ok-bad.field-0 c.in-Counted.next c.in_ok-bad.ensures.grown c.in-Counted.is in
    sides_to readings.trees (piece_of (steps readings.trees (c.args.left - 1)) c.args.holder.now c.args.front.now c.args.entry.now) c.args.counts.to c.in-Counted.next c.args.paths.now c.list_entry.new.paths
    (g.R.Keeper.reads c.args.keeper.now) (g.R.Keeper.reads c.list_entry.new.keeper)
    (sym (c.in_ok-bad.ensures.steps readings told) ∙ c.in-Counted.is)
    (counted_is _ c.in_ok-bad.field-0 c.in-Counted.next c.in_ok-bad.ensures.listed c.in-Counted.is readings told) grown.spent
