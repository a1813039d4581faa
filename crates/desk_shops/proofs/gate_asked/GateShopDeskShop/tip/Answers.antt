use Rattle.std.proofs.Common.{◌∙◌, List, ap, length}
use Rattle.std.specs.Prelude.{unwrap_or}
use Rattle.git_object.specs.Ids.{zeros}
use Rattle.pushes.specs.Steps.{tip_of}
use Rattle.pushes.specs.declared.rows.Row.{Row}
use Rattle.desk_shops.proofs.Standing.{many_rows}
use Rattle.desk_shops.proofs.Ledgers.{stands_inside}
use Rattle.desk_shops.proofs.gate_asked.GateShopDeskShop.tip.Goals as goal

pub returns-clause-count : goal.returns-clause-count
returns-clause-count g c = λ h is.
    let i = c.self.inside in
    let here = stands_inside c.args.self.now i.state i.keeper c.self.view_is g.R.Keeper h is in
    c.tip.ensures.count ∙ ap length here.desk.log ∙ many_rows h

pub returns-clause-id : goal.returns-clause-id
returns-clause-id g c = λ h is.
    let i = c.self.inside in
    let here = stands_inside c.args.self.now i.state i.keeper c.self.view_is g.R.Keeper h is in
    c.tip.ensures.id ∙ ap (λ (log : List Row). unwrap_or (tip_of log) zeros) here.desk.log
