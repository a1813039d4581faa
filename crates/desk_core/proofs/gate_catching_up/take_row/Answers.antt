use Rattle.std.proofs.Common.{◌≡◌, rules, true}
use Rattle.verify_ref.specs.Logs.{comes_next}
use Rattle.desk_core.proofs.Behind.{taken_next}
use Rattle.desk_core.proofs.gate_catching_up.take_row.Goals as goal

pub returns-in-Ok-clause-takes : goal.returns-in-Ok-clause-takes
returns-in-Ok-clause-takes g c = λ r log told follows.
    let came : comes_next c.args.engine.now.entries c.in_ok-entry.entry ≡ true = search rules in
    taken_next r log c.args.id.now c.args.engine.now c.extend.new.self c.in_ok-entry.entry (c.in_ok-entry.ensures.entry r (c.extend.ensures.same.content r told)) came follows (c.in-Ok.ensures.taken r log told follows).follows
