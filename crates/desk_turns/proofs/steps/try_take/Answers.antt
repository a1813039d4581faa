use Rattle.std.proofs.Common.{arith}
use Rattle.desk_turns.proofs.Moves.{take_as}
use Rattle.desk_turns.proofs.steps.try_take.Goals as goal

pub compare_exchange-requires : goal.compare_exchange-requires
compare_exchange-requires g c =
    let C = g.S.Chronicle in
    let token = c.args.token.now in
    (c.requires.table.0, omega (arith, c.requires.table.1), take_as C.is_legal C.stands C.counted c.args.board.now.shared.table_id.slots token.id token.me c.requires.seat.0 c.requires.seat.1 c.args.half)
