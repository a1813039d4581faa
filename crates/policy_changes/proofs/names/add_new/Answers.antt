use Rattle.std.proofs.Common.{◌++◌, ◌∷◌, [], ℕ, List, ap, ◌∙◌}
use Rattle.policy_changes.proofs.Tables.{kept_less, kept_more}
use Rattle.policy_changes.proofs.names.add_new.Goals as goal

pub returns-in-Ok-clause-kept : goal.returns-in-Ok-clause-kept
returns-in-Ok-clause-kept c =
    kept_more c.args.names.now c.args.name.now c.in_ok-key.key c.args.table.now c.put.new.table c.requires.kept c.in_ok-key.ensures c.in_ok-put.ensures.put
    c.push.new.self (c.in-Ok.ensures.added ∙ ap (λ (x : List ℕ). c.args.names.now ++ x ∷ []) c.in_ok-item.ensures)

pub returns-in-Err-clause-kept : goal.returns-in-Err-clause-kept
returns-in-Err-clause-kept c =
    kept_less c.args.names.now c.args.name.now c.in_ok-key.key c.args.table.now c.put.new.table c.requires.kept c.in_ok-key.ensures c.in_ok-put.ensures.put
    c.take_out.new.table c.requires.new c.push.new.self c.in-Err.ensures.same c.take_out.ensures
