use Rattle.std.proofs.Common.{arith}
use Rattle.desk_turns.proofs.Moves.{open_as}
use Rattle.desk_turns.proofs.seating.first_look.Goals as goal

pub load-requires : goal.load-requires
load-requires g c =
    let C = g.S.Chronicle in
    let token = c.args.token.now in
    (c.requires.table.0, omega (arith, c.requires.table.1), open_as C.is_legal C.stands C.counted c.args.board.now.shared.table_id.slots token.id token.me c.requires.me)

pub returns-clause-first : goal.returns-clause-first
returns-clause-first g c =
    let opened = c.load.ensures.2 in
    record { is = λ i. (opened.is i, opened.empty i); is_legal = opened.is_legal; unused = opened.unused }
