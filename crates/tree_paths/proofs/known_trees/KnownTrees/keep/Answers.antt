use Rattle.std.proofs.Common.{ap, sym, ◌∙◌, Some}
use Rattle.std.proofs.lemmas.Option.{IfSome_then}
use Rattle.tree_paths.specs.declared.known_trees.KnownTree.{KnownTree}
use Rattle.tree_paths.proofs.Rows.{is_known, known_more}
use Rattle.tree_paths.proofs.known_trees.KnownTrees.keep.Goals as goal

pub returns-in-Ok-clause-known : goal.returns-in-Ok-clause-known
returns-in-Ok-clause-known c = λ trees are adds there.
    let row : KnownTree = record { left = c.args.left; len = c.args.len; adds = c.args.adds; entries = c.within_room-entries.result } in
    known_more trees c.args.self.now (record c.args.self.now { rows = c.add_row.new.rows }) c.args.id.now row c.in-Ok.ensures.put are
    (is_known trees c.args.id.now row (record { adds = adds; entries = IfSome_then c.within_room-entries.result c.within_room-entries.ensures (λ es is. there ∙ ap Some (sym is)) }))
