use Rattle.std.proofs.Common.{◌≡◌, ◌*◌, [], ◌∷◌, refl, ap, ◌∙◌, arith, length-append}
use Rattle.desk_turns.specs.Histories.{with_member}
use Rattle.desk_turns.specs.Views.{written}
use Rattle.desk_turns.proofs.Moves.{leave_with_as}
use Rattle.desk_turns.proofs.Sittings.{gave}
use Rattle.desk_turns.proofs.steps.give_back_with.Goals as goal

pub overflow_mul-free : goal.overflow_mul-free
overflow_mul-free g c =
    let m = c.requires.member in
    let v = c.args.token.now.me.0 in
    let e = c.len-length.ensures (with_member v.seen m.0) m.1 in
    omega (arith, e, c.requires.room, length-append v.seen.members (m.0 ∷ []))

pub store-requires : goal.store-requires
store-requires g c =
    let C = g.S.Chronicle in
    let v = c.args.token.now.me.0 in
    let state = c.args.state in
    let put = c.put_in.ensures in
    let token = c.put_in.new.token in
    let m = c.requires.member in
    let length_is = c.len-length.ensures (with_member v.seen m.0) m.1 in
    let legal = g.met.S.Chronicle.stands_legal state (with_member v.seen m.0) m.1 in
    let room = length-append v.seen.members (m.0 ∷ []) in (
      put.table.0 ∙ c.requires.table.0,
      omega (arith, c.requires.table.1),
      leave_with_as C.is_legal C.stands C.counted c.args.board.now.shared.table_id.slots token.id token.me
          (written (C.counted state) v) state put.is c.requires.holds.0 refl refl m.0 m.2 m.1 legal
          (omega (arith, c.requires.room, room)) (2 * c.len-length.result) (ap (λ k. 2 * k) length_is),
    )

pub returns-clause-is : goal.returns-clause-is
returns-clause-is g c =
    let C = g.S.Chronicle in
    gave C.is_legal C.stands C.counted c.args.token.now.me c.put_in.new.token.me c.store.new.seat.me c.args.state
    c.put_in.ensures.is c.store.ensures.2
