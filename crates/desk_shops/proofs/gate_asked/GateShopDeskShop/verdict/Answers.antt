use Rattle.std.proofs.Common.{subst, sym}
use Rattle.std.specs.Prelude.{IfOk, Result}
use Rattle.octets.specs.Causes.{HasCause}
use Rattle.keeper_api.specs.Faults.{keeper_failed}
use Rattle.keeper_api.specs.declared.keeper_faults.KeeperFault.{KeeperFault}
use Rattle.desk_turns.specs.Histories.{History}
use Rattle.desk_shops.specs.declared.judged.Judged.{Judged}
use Rattle.desk_shops.specs.GateCalls.{GateJudges, judged_by}
use Rattle.desk_shops.specs.GateStanding.{Stands}
use Rattle.desk_shops.proofs.Asking.{asked_stands, verdict_cause, verdict_found}
use Rattle.desk_shops.proofs.Ledgers.{cause_inside, clear_inside, judged_inside, stands_inside}
use Rattle.desk_shops.proofs.gate_asked.GateShopDeskShop.verdict.Goals as goal

pub verdict-requires-clause-clear : goal.verdict-requires-clause-clear
verdict-requires-clause-clear g c = clear_inside c.args.self.now c.self.inside.state c.self.inside.keeper c.self.view_is c.requires.clear

pub returns-clause-stands : goal.returns-clause-stands
returns-clause-stands g c = λ h is.
    let i = c.self.inside in
    let here = stands_inside c.args.self.now i.state i.keeper c.self.view_is g.R.Keeper h is in
    let clear = clear_inside c.args.self.now i.state i.keeper c.self.view_is c.requires.clear in
    asked_stands g.R.Keeper i.keeper c.verdict.new.keeper i.state c.verdict.new.self c.verdict.ensures.same c.verdict.ensures.log clear keeper_failed c.verdict.result c.verdict.ensures.cause c.verdict.ensures.judges h here

pub returns-clause-judges : goal.returns-clause-judges
returns-clause-judges g c =
    let i = c.self.inside in
    let k = g.R.Keeper in
    let new = c.verdict.new.keeper in
    let name = c.args.name.now in
    let shop = c.args.self.now in
    let clear = clear_inside shop i.state i.keeper c.self.view_is c.requires.clear in
    subst (λ (x : Result Judged KeeperFault). IfOk x (λ judged. (h : History) → Stands k shop.1 shop.0 h → GateJudges k new h name judged)) (sym c.judged_by.ensures)
    (judged_inside shop i.state i.keeper c.self.view_is k new name (judged_by c.verdict.result)
    (verdict_found k i.keeper new i.state c.verdict.new.self c.verdict.ensures.same c.verdict.ensures.log clear name c.verdict.result c.verdict.ensures.judged))

pub returns-clause-cause : goal.returns-clause-cause
returns-clause-cause g c =
    let i = c.self.inside in
    let k = g.R.Keeper in
    let before = k.faults c.args.self.now.1 in
    let now = k.faults c.verdict.new.keeper in
    subst (λ (x : Result Judged KeeperFault). HasCause keeper_failed before now x) (sym c.judged_by.ensures)
    (verdict_cause before now c.verdict.result (cause_inside c.args.self.now i.state i.keeper c.self.view_is k keeper_failed now c.verdict.result c.verdict.ensures.cause))
