use Rattle.std.proofs.Common.{◌≡◌, true, inr, sym, ◌∙◌}
use Rattle.desk_turns.proofs.Pushed.{answered_done}
use Rattle.desk_turns.proofs.desks.Desk.push_read.Goals as goal

pub returns-then-is_done-clause-answer : goal.returns-then-is_done-clause-answer
returns-then-is_done-clause-answer g c =
    let C = g.S.Chronicle in
    let D = g.S.DeskShop in
    let enters = c.in-Ok.ensures.entered in
    let seen = c.enter.new.seat.seen in
    let done : D.is_done c.push-answer.result ≡ true = sym c.is_done.ensures ∙ c.if-is_done.true in
    inr (answered_done C.is_legal C.stands D.in_doubt C.counted D.told D.answers D.is_done D.is_fault D.plain g.met.S.DeskShop.one_log g.met.S.DeskShop.told_last c.args.push.now c.push-answer.result c.number.result c.args.seat.now c.enter.new.seat c.leave_with.new.seat c.in-Ok.shop c.push-answer.new.self enters c.number.ensures (c.push-answer.ensures.stands seen enters.is_state) (c.push-answer.ensures.answers seen enters.is_state) c.push-answer.ensures.clear c.push-answer.ensures.cause done c.leave_with.ensures.seat)
