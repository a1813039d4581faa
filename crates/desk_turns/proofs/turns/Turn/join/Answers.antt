use Rattle.std.proofs.Common.{◌≡◌, ◌⊎◌, ◌<◌, ◌+◌, ◌^◌, [], ◌∷◌, true, false, refl, sym, ap, ◌∙◌, subst, arith}
use Rattle.desk_turns.specs.Histories.{count, with_member}
use Rattle.desk_turns.specs.Views.{sitting}
use Rattle.desk_turns.specs.Seated.{view_in}
use Rattle.desk_turns.proofs.Moves.{join_moves, merge_as}
use Rattle.desk_turns.proofs.Sittings.{merge_done, is_seat}
use Rattle.desk_turns.proofs.turns.Turn.join.Goals as goal

pub join_seat-requires : goal.join_seat-requires
join_seat-requires g c =
    let C = g.S.Chronicle in
    let up = c.lift-token.ensures in
    let of = c.lift-other.ensures in
    let token = c.lift-token.result in
    let other = c.lift-other.result in (
      up.table ∙ (ap (λ s. s.turn) c.into.view_is ∙ (c.requires.turn.0 ∙ sym c.self.view_is)),
      of.table ∙ (ap (λ s. s.turn) c.from.view_is ∙ (c.requires.turn.1 ∙ sym c.self.view_is)),
      ap (λ m. m.1) of.me,
      omega (arith, c.self.invariant),
      join_moves C.is_legal C.stands C.counted c.self.inside.board.shared.table_id.slots token.id token.me.0 other.id other.me.0 (subst (λ m. 0 < m.0.number) (sym of.me) (subst (λ n. 0 < n) c.from.invariant.number c.from.invariant.some)),
    )

pub load-requires : goal.load-requires
load-requires g c =
    let C = g.S.Chronicle in
    let up = c.lift-token.ensures in
    let joined = c.join_seat.ensures in
    let seat = c.join_seat.new.seat in (
      joined.0 ∙ (up.table ∙ (ap (λ s. s.turn) c.into.view_is ∙ (c.requires.turn.0 ∙ sym c.self.view_is))),
      omega (arith, c.self.invariant),
      merge_as C.is_legal C.stands C.counted c.self.inside.board.shared.table_id.slots seat.id seat.me
          (subst (λ m. 0 < m.0.number) (sym joined.2) (subst (λ m. 0 < m.0.number) (sym up.me) (subst (λ n. 0 < n) c.into.invariant.number c.into.invariant.some)))
          (ap (λ m. m.0.holds) joined.2 ∙ (ap (λ m. m.0.holds) up.me ∙ (ap (λ s. s.holds) c.into.view_is ∙ c.requires.idle.0))),
    )

pub into_badge-requires : goal.into_badge-requires
into_badge-requires g c = ap (λ m. m.1) c.load.ensures.2.is ∙ (ap (λ m. m.1) c.join_seat.ensures.2 ∙ ap (λ m. m.1) c.lift-token.ensures.me)

pub invariant_of-into : goal.invariant_of-into
invariant_of-into g c =
    let merged = c.load.ensures.2 in
    let joined = c.join_seat.ensures.2 in
    let up = c.lift-token.ensures in
    is_seat _ c.load.new.seat.me.0 c.into_badge.ensures.2 (c.into.invariant.number ∙ (ap (λ m. m.0.number) (sym up.me) ∙ (ap (λ m. m.0.number) (sym joined) ∙ ap (λ m. m.0.number) (sym merged.is)))) c.into.invariant.some
    (ap (λ m. m.0.out) merged.is ∙ (ap (λ m. m.0.out) joined ∙ (ap (λ m. m.0.out) up.me ∙ c.into.invariant.home)))

pub returns : goal.returns
returns g c =
    let C = g.S.Chronicle in
    let B = c.into.inside.badge in
    let badge = c.into_badge.result in
    let up = c.lift-token.ensures in
    let of = c.lift-other.ensures in
    let table = c.into_badge.ensures.0 ∙ (c.load.ensures.0 ∙ (c.join_seat.ensures.0 ∙ up.table)) in
    let was = ap (λ m. sitting B.table_id m.0) up.me ∙ c.into.view_is in record {
      seat = merge_done C.is_legal C.stands C.counted B.table_id badge.table_id c.lift-token.result.me c.load.new.seat.me badge.views table c.into_badge.ensures.2 c.args.into.now was c.join_seat.new.seat.me c.lift-other.result.me.0 c.join_seat.ensures.2 c.load.ensures.2 c.args.from
          (ap (λ m. m.0.seen) of.me ∙ ap (λ s. s.seen) c.from.view_is);
    }
