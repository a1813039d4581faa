use Rattle.std.proofs.Common.{◌∙◌, ap, length}
use Rattle.desk_shops.proofs.Standing.{many_rows}
use Rattle.desk_shops.proofs.Ledgers.{stands_inside}
use Rattle.desk_shops.proofs.gate_shop.GateShopChronicle.len.Goals as goal

pub returns : goal.returns
returns g c = λ h is.
    let i = c.self.inside in
    let here = stands_inside c.args.self.now i.state i.keeper c.self.view_is g.R.Keeper h is in
    c.tip.ensures.count ∙ ap length here.desk.log ∙ many_rows h
