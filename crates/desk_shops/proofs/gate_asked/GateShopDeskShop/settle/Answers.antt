use Rattle.desk_turns.specs.Settling.{is_unsettled, settled_as}
use Rattle.desk_shops.proofs.Ledgers.{cause_inside, stands_inside}
use Rattle.desk_shops.proofs.Settling.{settle_stands}
use Rattle.desk_shops.proofs.gate_asked.GateShopDeskShop.settle.Goals as goal

pub returns-clause-stands : goal.returns-clause-stands
returns-clause-stands g c = λ h is.
    let i = c.self.inside in
    let here = stands_inside c.args.self.now i.state i.keeper c.self.view_is g.R.Keeper h is in
    settle_stands g.R.Keeper i.keeper c.settle.new.keeper i.state c.settle.new.self h here c.settle.result c.settle.ensures.waits c.settle.ensures.settles c.settle.ensures.settled c.settle.ensures.cause

pub invariant_of-self : goal.invariant_of-self
invariant_of-self g c = c.settle.ensures.known c.self.invariant

pub returns-clause-cause : goal.returns-clause-cause
returns-clause-cause g c =
    let i = c.self.inside in cause_inside c.args.self.now i.state i.keeper c.self.view_is g.R.Keeper is_unsettled (g.R.Keeper.faults c.settle.new.keeper) (settled_as c.settle.result) c.settle.ensures.cause
