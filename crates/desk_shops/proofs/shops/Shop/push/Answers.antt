use Rattle.desk_shops.proofs.Desks.{done_clear}
use Rattle.desk_shops.proofs.Standing.{push_replies, push_stands}
use Rattle.desk_shops.proofs.shops.Shop.push.Goals as goal

pub returns-clause-stands : goal.returns-clause-stands
returns-clause-stands g c =
    push_stands g.R.Keeper c.args.self.now.keeper c.step.new.keeper c.args.self.now.state c.step.new.self c.args.push.now c.args.seat c.step.result c.requires.clear c.requires.spelled c.requires.seat c.step.ensures.engine c.step.ensures.steps
    c.step.ensures.cause

pub returns-clause-replies : goal.returns-clause-replies
returns-clause-replies g c = push_replies g.R.Keeper c.args.self.now.keeper c.step.new.keeper c.args.self.now.state c.step.new.self c.args.push.now c.args.seat c.step.result c.requires.clear c.requires.spelled c.step.ensures.steps

pub returns-clause-clear : goal.returns-clause-clear
returns-clause-clear g c = done_clear g.R.Keeper c.args.self.now.keeper c.step.new.keeper c.args.self.now.state.log c.step.new.self.log c.args.push.now c.args.seat c.step.result c.step.ensures.steps
