use Rattle.std.proofs.Common.{sym, subst}
use Rattle.std.specs.Prelude.{IfOk, Result}
use Rattle.keeper_api.specs.declared.keeper_faults.KeeperFault.{KeeperFault}
use Rattle.desk_turns.specs.Histories.{History}
use Rattle.desk_shops.specs.Desks.{Judges}
use Rattle.desk_shops.specs.Standing.{Stands}
use Rattle.desk_shops.specs.declared.judged.Judged.{Judged}
use Rattle.desk_shops.proofs.Refusals.{verdict_judges}
use Rattle.desk_shops.proofs.asked.ShopDeskShop.verdict.Goals as goal

pub returns-in-Ok-clause-judges : goal.returns-in-Ok-clause-judges
returns-in-Ok-clause-judges g c = λ h is r told. c.in-Ok.ensures.judged h r is told

pub returns-in-Err-clause-judges : goal.returns-in-Err-clause-judges
returns-in-Err-clause-judges g c =
    let K = g.R.Keeper in
    let old = c.args.self.now in
    let store = c.verdict.new.self.keeper in
    let name = c.args.name.now in
    subst (λ (x : Result Judged KeeperFault). IfOk x (λ judged. (h : History) → Stands K old.keeper old.state h → Judges K store h name judged)) (sym c.broken_of.ensures)
    (verdict_judges K store (λ h. Stands K old.keeper old.state h) name c.in-Err.fault c.in-Err.ensures.unbroken)
