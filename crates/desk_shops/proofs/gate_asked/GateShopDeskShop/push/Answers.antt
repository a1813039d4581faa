use Rattle.std.proofs.Common.{ℕ, ◌<◌, ◌≢◌, arith}
use Rattle.desk_core.specs.States.{gate_answered, is_gate_fault}
use Rattle.desk_shops.proofs.Ledgers.{cause_inside, clear_inside, stands_inside}
use Rattle.desk_shops.proofs.Pushing.{done_free, push_answers, push_stands}
use Rattle.desk_shops.proofs.gate_asked.GateShopDeskShop.push.Goals as goal

some_seat : (n : ℕ) → 0 < n → n ≢ 0
some_seat n some = λ none. absurd (omega (arith, some, none))

pub step-requires-clause-clear : goal.step-requires-clause-clear
step-requires-clause-clear g c = clear_inside c.args.self.now c.self.inside.state c.self.inside.keeper c.self.view_is c.requires.clear

pub returns-clause-stands : goal.returns-clause-stands
returns-clause-stands g c = λ h is.
    let i = c.self.inside in
    let here = stands_inside c.args.self.now i.state i.keeper c.self.view_is g.R.Keeper h is in
    let clear = clear_inside c.args.self.now i.state i.keeper c.self.view_is c.requires.clear in
    push_stands g.R.Keeper i.keeper c.step.new.keeper i.state c.step.new.self c.args.push.now c.args.seat h here clear c.requires.spelled (some_seat c.args.seat c.requires.seat) c.step.result c.step.ensures.steps c.step.ensures.gate c.step.ensures.cause

pub returns-clause-answers : goal.returns-clause-answers
returns-clause-answers g c = λ h is.
    let i = c.self.inside in
    let here = stands_inside c.args.self.now i.state i.keeper c.self.view_is g.R.Keeper h is in
    let clear = clear_inside c.args.self.now i.state i.keeper c.self.view_is c.requires.clear in
    push_answers g.R.Keeper i.keeper c.step.new.keeper i.state c.step.new.self c.args.push.now c.args.seat h here clear c.step.result c.step.ensures.steps c.step.ensures.gate

pub returns-clause-clear : goal.returns-clause-clear
returns-clause-clear g c = done_free g.R.Keeper c.self.inside.keeper c.step.new.keeper c.self.inside.state.log c.step.new.self.log c.args.push.now c.args.seat c.step.result c.step.ensures.steps

pub returns-clause-cause : goal.returns-clause-cause
returns-clause-cause g c =
    let i = c.self.inside in cause_inside c.args.self.now i.state i.keeper c.self.view_is g.R.Keeper is_gate_fault (g.R.Keeper.faults c.step.new.keeper) (gate_answered c.step.result) c.step.ensures.cause
