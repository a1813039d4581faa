use Rattle.std.proofs.Common.{refl}
use Rattle.worlds.proofs.Counting.{after}
use Rattle.worlds.specs.Counts.{Faults}
use Rattle.worlds.specs.declared.ending.Ending.TheVariants.{Done}
use Rattle.commands_verify.specs.Verifying.{verify_ending}
use Rattle.commands_verify.proofs.StaysOpen.{judge_counted, looked}
use Rattle.commands_verify.proofs.verifying.look.Goals as goal

pub returns-clause-ends : goal.returns-clause-ends
returns-clause-ends g c =
    looked g.R.Keeper (g.S.Source.left c.args.source.now) (g.S.Source.left c.open.new.source) c.args.keeper.now c.open.new.keeper c.judge.new.keeper c.judge.ensures.same
    c.args.name.now c.args.root.now c.args.stdin c.judge.result c.in-Ok.ensures.opens c.judge.ensures.judges

pub returns-clause-counted : goal.returns-clause-counted
returns-clause-counted g c = λ rest.
    let mid : Faults = record rest { source = g.S.Source.faults c.open.new.source; keeper = g.R.Keeper.faults c.open.new.keeper } in
    after {m = mid} Done (verify_ending c.judge.result) refl (c.in-Ok.ensures.counted rest)
    (judge_counted c.args.name.now c.args.root.now (g.R.Keeper.content c.judge.new.keeper) mid (g.R.Keeper.faults c.judge.new.keeper) c.judge.result c.judge.ensures.judges c.judge.ensures.cause)
