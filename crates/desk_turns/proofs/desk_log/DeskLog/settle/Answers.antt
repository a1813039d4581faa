use Rattle.desk_turns.proofs.Tips.{settles_from}
use Rattle.desk_turns.proofs.desk_log.DeskLog.settle.Goals as goal

pub returns-then-same_tip-clause-settles : goal.returns-then-same_tip-clause-settles
returns-then-same_tip-clause-settles g c =
    settles_from g.R.Keeper c.args.keeper.now c.log_tip.new.keeper c.drop_doubt.new.keeper c.in-Ok.ensures.same c.args.self.now c.drop_doubt.new.self c.drop_doubt.result c.drop_doubt.ensures.settles

pub returns-then-same_tip-2-clause-settles : goal.returns-then-same_tip-2-clause-settles
returns-then-same_tip-2-clause-settles g c =
    settles_from g.R.Keeper c.args.keeper.now c.log_tip.new.keeper c.take_in.new.keeper c.in-Ok.ensures.same c.args.self.now c.take_in.new.self c.take_in.result c.take_in.ensures.settles
