use Rattle.std.proofs.Common.{List, refl, subst, sym, ℕ}
use Rattle.std.specs.Prelude.{Result}
use Rattle.octets.specs.Causes.{HasCause}
use Rattle.desk_shops.specs.Texts.{text_keeper_failed}
use Rattle.pushes.specs.declared.replies.Reply.{Reply}
use Rattle.desk_turns.specs.States.{is_fault}
use Rattle.desk_shops.specs.Desks.{IsStreamOf}
use Rattle.desk_shops.proofs.Asking.{asked_stands, last_told, stream_of, text_cause}
use Rattle.desk_shops.proofs.Ledgers.{cause_inside, clear_inside, stands_inside}
use Rattle.desk_shops.proofs.gate_asked.GateShopDeskShop.stream.Goals as goal

pub invariant_of-self : goal.invariant_of-self
invariant_of-self g c = λ r told. c.self.invariant r (c.stream_text.ensures.same.content r told)

pub returns-clause-stands : goal.returns-clause-stands
returns-clause-stands g c = λ h is.
    let i = c.self.inside in
    let here = stands_inside c.args.self.now i.state i.keeper c.self.view_is g.R.Keeper h is in
    let clear = clear_inside c.args.self.now i.state i.keeper c.self.view_is c.requires.clear in
    asked_stands g.R.Keeper i.keeper c.stream_text.new.keeper i.state i.state c.stream_text.ensures.same refl clear text_keeper_failed c.stream_text.result c.stream_text.ensures.cause (λ r log told judges. judges) h here

pub returns-clause-streams : goal.returns-clause-streams
returns-clause-streams g c = λ h is r told.
    let i = c.self.inside in
    let here = stands_inside c.args.self.now i.state i.keeper c.self.view_is g.R.Keeper h is in
    let clear = clear_inside c.args.self.now i.state i.keeper c.self.view_is c.requires.clear in (
      last_told g.R.Keeper i.keeper c.stream_text.new.keeper i.state i.state c.stream_text.ensures.same refl clear h here r told,
      subst (λ (x : Result (List ℕ) Reply). IsStreamOf r x) (sym c.text_or_reply.ensures) (stream_of r c.stream_text.result (c.stream_text.ensures.told r told)),
    )

pub returns-clause-cause : goal.returns-clause-cause
returns-clause-cause g c =
    let i = c.self.inside in
    let k = g.R.Keeper in
    let before = k.faults c.args.self.now.1 in
    let now = k.faults c.stream_text.new.keeper in
    subst (λ (x : Result (List ℕ) Reply). HasCause is_fault before now x) (sym c.text_or_reply.ensures)
    (text_cause before now c.stream_text.result (cause_inside c.args.self.now i.state i.keeper c.self.view_is k text_keeper_failed now c.stream_text.result c.stream_text.ensures.cause))
