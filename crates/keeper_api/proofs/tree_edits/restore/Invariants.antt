use Rattle.std.proofs.Common.{vec_len}
use Rattle.std.specs.FinMap.{FinMap}
use Rattle.keeper_api.specs.Trees.{tree_map}
use Rattle.keeper_api.specs.Undoing.{Inserts}
use Rattle.keeper_api.proofs.tree_edits.restore.Given as goal

abbrev pub invariant-steps : goal.invariant-steps
invariant-steps g l =
    (first : FinMap g.K.Ord.cmp g.row.V.Denot) → Inserts first l.fn.undo.items (tree_map g.K.Ord.cmp l.fn.map) → Inserts first l.undo.items (tree_map g.K.Ord.cmp l.map)

abbrev pub decreases-steps : goal.decreases-steps
decreases-steps g l = vec_len l.undo
