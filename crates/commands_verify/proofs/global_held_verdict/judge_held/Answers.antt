use Rattle.worlds.specs.Counts.{Faults}
use Rattle.commands_verify.proofs.Counted.{judge_counted}
use Rattle.commands_verify.proofs.global_held_verdict.judge_held.Goals as goal

pub returns-clause-counted : goal.returns-clause-counted
returns-clause-counted g c = λ rest.
    let was : Faults = record rest { keeper = g.R.Keeper.faults c.args.keeper.now } in
    judge_counted c.args.name.now c.args.root.now (g.R.Keeper.content c.judge_under.new.keeper) was (g.R.Keeper.faults c.judge_under.new.keeper) c.judge_under.result c.judge_under.ensures.judges c.judge_under.ensures.cause
