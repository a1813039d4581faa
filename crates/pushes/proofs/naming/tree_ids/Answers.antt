use Rattle.std.proofs.Common.{◌≡◌, [], sym, ◌∙◌, rules}
use Rattle.pushes.specs.Naming.{entry_ids}
use Rattle.pushes.proofs.Names.{tree_bad, tree_is}
use Rattle.pushes.proofs.naming.tree_ids.Goals as goal

pub returns-in_ok-entry_ids-in-Ok : goal.returns-in_ok-entry_ids-in-Ok
returns-in_ok-entry_ids-in-Ok c =
    let e : c.in_ok-entry_ids-in-Ok.field-0.items ≡ entry_ids c.in-Ok.tree.entries = search rules in
    e ∙ sym (tree_is c.in-Ok.tree c.args.body.now c.in-Ok.ensures.found)

pub returns-in-Err-Malformed : goal.returns-in-Err-Malformed
returns-in-Err-Malformed c =
    let e : c.new.result.items ≡ [] = search rules in
    e ∙ sym (tree_bad c.args.body.now c.in-Err-Malformed.field-0-0 (rw c.in-Err-Malformed.field-0-is at c.in-Err-Malformed.ensures.bad))
