use Rattle.std.proofs.Common.{◌++◌, ◌∷◌, [], sym, ◌∙◌}
use Rattle.keeper_api.proofs.Trees.{get_tree, tree_map_insert}
use Rattle.keeper_api.proofs.Undos.{insert_back}
use Rattle.keeper_api.proofs.tree_edits.insert_one.Goals as goal

pub returns-in-Ok-clause-ok : goal.returns-in-Ok-clause-ok
returns-in-Ok-clause-ok g c =
    tree_map_insert g.met.K.Ord.total c.requires c.args.map.now c.insert.new.self c.args.key c.args.value c.in_ok-had.ensures.updates.0

pub returns-in-Ok-clause-noted : goal.returns-in-Ok-clause-noted
returns-in-Ok-clause-noted g c =
    c.in-Ok.ensures.items
    ∙ (λ i. c.args.undo.now.items ++ (c.in_ok-again.ensures i, (c.in_ok-had.ensures.old ∙ sym (get_tree g.met.K.Ord.total c.args.map.now c.args.key)) i) ∷ [])

pub returns-in-Err-clause-err : goal.returns-in-Err-clause-err
returns-in-Err-clause-err g c =
    insert_back g.met.K.Ord.total c.requires c.args.map.now c.insert.new.self c.put_back.new.map c.args.key c.args.value c.in_ok-had.had _ c.in_ok-had.ensures.old
    (c.in-Err.ensures.value_returned ∙ (λ i. (c.in_ok-again.ensures i, c.in_ok-had.had)))
    (tree_map_insert g.met.K.Ord.total c.requires c.args.map.now c.insert.new.self c.args.key c.args.value c.in_ok-had.ensures.updates.0)
    c.put_back.ensures
