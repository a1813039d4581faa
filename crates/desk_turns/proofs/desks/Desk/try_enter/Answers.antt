use Rattle.std.proofs.Common.{◌<◌, sym, subst}
use Rattle.desk_turns.proofs.CallSittings.{took_ahead, took_in}
use Rattle.desk_turns.proofs.desks.Desk.try_enter.Goals as goal

pub returns-in-TookIn-clause-again : goal.returns-in-TookIn-clause-again
returns-in-TookIn-clause-again g c =
    let C = g.S.Chronicle in
    let took = c.take-shop.ensures in
    let mid = c.take-shop.new.seat in
    let ahead = took_ahead (C.counted c.take-shop.result) c.args.seat.now mid took.seat in
    took_in C.is_legal C.stands C.counted g.met.S.DeskShop.one_log c.settle.new.self c.in-TookIn.id c.args.seat.now mid c.leave_with.new.seat ahead (subst (λ n. 0 < n) (sym ahead.same_number) c.requires.number)
    (c.in-TookIn.ensures.stands mid.seen took.stands) c.leave_with.ensures.seat c.leave_with.ensures.legal
