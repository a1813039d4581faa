use Rattle.std.proofs.Common.{◌≡◌, ◌⊎◌, ◌<◌, ◌+◌, ◌^◌, [], ◌∷◌, true, false, refl, sym, ap, ◌∙◌, subst, arith}
use Rattle.desk_turns.specs.Histories.{count, with_member}
use Rattle.desk_turns.specs.Views.{sitting}
use Rattle.desk_turns.specs.Seated.{view_in}
use Rattle.desk_turns.proofs.Moves.{look_as}
use Rattle.desk_turns.proofs.Sittings.{look_done, look_counts, look_held, is_seat}
use Rattle.desk_turns.proofs.turns.Turn.count.Goals as goal

pub load-found-requires : goal.load-found-requires
load-found-requires g c =
    let C = g.S.Chronicle in
    let up = c.lift-token.ensures in
    let token = c.lift-token.result in (
      up.table ∙ (ap (λ s. s.turn) c.seat.view_is ∙ (c.requires.turn ∙ sym c.self.view_is)),
      omega (arith, c.self.invariant),
      look_as C.is_legal C.stands C.counted c.self.inside.board.shared.table_id.slots token.id token.me (subst (λ m. 0 < m.0.number) (sym up.me) (subst (λ n. 0 < n) c.seat.invariant.number c.seat.invariant.some)),
    )

pub invariant_of-seat : goal.invariant_of-seat
invariant_of-seat g c =
    let looked = c.load-found.ensures.2 in
    let up = c.lift-token.ensures in
    is_seat _ c.load-found.new.seat.me.0 c.into_badge.ensures.2 (c.seat.invariant.number ∙ (ap (λ m. m.0.number) (sym up.me) ∙ ap (λ m. m.0.number) (sym looked.is))) c.seat.invariant.some
    (ap (λ m. m.0.out) looked.is ∙ (ap (λ m. m.0.out) up.me ∙ c.seat.invariant.home))

pub into_badge-requires : goal.into_badge-requires
into_badge-requires g c = ap (λ m. m.1) c.load-found.ensures.2.is ∙ ap (λ m. m.1) c.lift-token.ensures.me

pub returns : goal.returns
returns g c =
    let C = g.S.Chronicle in
    let B = c.seat.inside.badge in
    let badge = c.into_badge.result in
    let up = c.lift-token.ensures in
    let one = c.into_badge.ensures.2 in
    let table = c.into_badge.ensures.0 ∙ (c.load-found.ensures.0 ∙ up.table) in
    let was = ap (λ m. sitting B.table_id m.0) up.me ∙ c.seat.view_is in
    let found = c.load-found.result in record {
      length = look_counts C.is_legal C.stands C.counted B.table_id badge.table_id c.lift-token.result.me c.load-found.new.seat.me badge.views table one c.args.seat.now was found c.load-found.ensures.2;
      seat = look_done C.is_legal C.stands C.counted B.table_id badge.table_id c.lift-token.result.me c.load-found.new.seat.me badge.views table one c.args.seat.now was found c.load-found.ensures.2;
      held = look_held C.is_legal C.stands C.counted B.table_id badge.table_id c.lift-token.result.me c.load-found.new.seat.me badge.views table one c.args.seat.now was found c.load-found.ensures.2;
    }
