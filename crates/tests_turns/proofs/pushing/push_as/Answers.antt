use Rattle.std.proofs.Common.{◌≡◌, ap, ◌∙◌}
use Rattle.tests_turns.proofs.Pushed.{looked_first}
use Rattle.tests_turns.proofs.pushing.push_as.Goals as goal

pub returns-clause-pushed : goal.returns-clause-pushed
returns-clause-pushed g c =
    let look = c.looked-after.ensures.sees in
    let after = c.looked-after.result in
    (after, looked_first after c.args.id.now c.args.seat.now c.looked-after.new.seat c.push.new.seat look c.push.result c.push.ensures.pushed)
