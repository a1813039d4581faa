use Rattle.std.proofs.Common.{arith}
use Rattle.desk_turns.proofs.Moves.{write_as}
use Rattle.desk_turns.proofs.steps.put_in.Goals as goal

pub store-requires : goal.store-requires
store-requires g c =
    let C = g.S.Chronicle in
    let token = c.args.token.now in
    (c.requires.table.0, omega (arith, c.requires.table.1), write_as C.is_legal C.stands C.counted c.args.board.now.shared.table_id.slots token.id token.me c.requires.holds.0 c.requires.holds.1 c.requires.slot c.faults-faults.result)
