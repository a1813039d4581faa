use Rattle.std.proofs.Common.{inr, rules}
use Rattle.commands_log.specs.Logging.{FindsBreak}
use Rattle.commands_log.proofs.Outcomes.{break_cut}
use Rattle.commands_log.proofs.logging.log.Goals as goal

pub returns-in-Err-clause-ends : goal.returns-in-Err-clause-ends
returns-in-Err-clause-ends g c =
    let finds : FindsBreak (g.R.Keeper.content c.print_log-outcome.new.keeper) (g.K.Sink.contents c.args.sink.now) (g.K.Sink.contents c.print_log-outcome.new.sink) c.in-Err-Broken.id = search rules in
    inr (break_cut (g.R.Keeper.content c.print_log-outcome.new.keeper) (g.K.Sink.contents c.args.sink.now) (g.K.Sink.contents c.print_log-outcome.new.sink) (g.K.Sink.contents c.print_break.new.sink) c.in-Err-Broken.id finds c.in-Err.ensures.part)
