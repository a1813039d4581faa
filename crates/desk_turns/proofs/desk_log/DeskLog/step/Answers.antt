use Rattle.desk_turns.proofs.Taking.{steps_from}
use Rattle.desk_turns.proofs.desk_log.DeskLog.step.Goals as goal

pub returns-in-Ok-clause-steps : goal.returns-in-Ok-clause-steps
returns-in-Ok-clause-steps g c = steps_from g.R.Keeper c.args.keeper.now c.check.new.keeper c.take.new.keeper c.in-Ok.ensures.same c.args.self.now c.take.new.self c.args.push.now c.args.seat c.take.result c.take.ensures.steps
