use Rattle.std.proofs.Common.{◌≡◌, ◌*◌, [], refl, ap, ◌∙◌, arith}
use Rattle.desk_turns.specs.Views.{freed, written}
use Rattle.desk_turns.proofs.Moves.{leave_as}
use Rattle.desk_turns.proofs.steps.give_back.Goals as goal

pub overflow_mul-free : goal.overflow_mul-free
overflow_mul-free g c =
    let e = c.len-length.ensures _ c.requires.stands in
    let lt = c.requires.room in
    omega (arith, e, lt)

pub store-requires : goal.store-requires
store-requires g c =
    let C = g.S.Chronicle in
    let v = c.args.token.now.me.0 in
    let state = c.args.state in
    let put = c.put_in.ensures in
    let token = c.put_in.new.token in
    let length_is = c.len-length.ensures v.seen c.requires.stands in
    let legal = g.met.S.Chronicle.stands_legal state v.seen c.requires.stands in (
      put.table.0 ∙ c.requires.table.0,
      omega (arith, c.requires.table.1),
      leave_as C.is_legal C.stands C.counted c.args.board.now.shared.table_id.slots token.id token.me
          (written (C.counted state) v) state put.is c.requires.holds.0 refl refl c.requires.stands legal
          c.requires.room (2 * c.len-length.result) (ap (λ k. 2 * k) length_is),
    )

pub returns-clause-is : goal.returns-clause-is
returns-clause-is g c = c.store.ensures.2 ∙ ap (λ m. (freed m.0, [])) c.put_in.ensures.is
