use Rattle.std.proofs.Common.{◌≡◌}
use Rattle.keeper_api.specs.Trees.{tree_map, with_entries}
use Rattle.keeper_api.specs.Undoing.{Inserts}
use Rattle.keeper_api.proofs.tree_edits.insert_all.Given as goal

abbrev pub invariant-entries : goal.invariant-entries
invariant-entries g l = record {
  inserted : tree_map g.K.Ord.cmp l.map ≡ with_entries l.yielded (tree_map g.K.Ord.cmp l.fn.map);
  steps : Inserts (tree_map g.K.Ord.cmp l.fn.map) l.undo.items (tree_map g.K.Ord.cmp l.map);
}
