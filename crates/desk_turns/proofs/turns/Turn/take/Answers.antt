use Rattle.std.proofs.Common.{◌≡◌, ◌⊎◌, ◌<◌, ◌+◌, ◌^◌, [], ◌∷◌, true, false, refl, sym, ap, ◌∙◌, subst, arith}
use Rattle.desk_turns.specs.Histories.{count, with_member}
use Rattle.desk_turns.specs.Views.{sitting}
use Rattle.desk_turns.specs.Seated.{view_in}
use Rattle.desk_turns.proofs.Sittings.{take_done, is_seat}
use Rattle.desk_turns.proofs.turns.Turn.take.Goals as goal

pub take_turn-state-requires : goal.take_turn-state-requires
take_turn-state-requires g c =
    let up = c.lift-token.ensures in record {
      table = (up.table ∙ (ap (λ s. s.turn) c.seat.view_is ∙ (c.requires.turn ∙ sym c.self.view_is)), c.self.invariant);
      seat = (subst (λ m. 0 < m.0.number) (sym up.me) (subst (λ n. 0 < n) c.seat.invariant.number c.seat.invariant.some), ap (λ m. m.1) up.me);
    }

pub invariant_of-seat : goal.invariant_of-seat
invariant_of-seat g c =
    let taken = c.take_turn-state.ensures.took in
    is_seat _ c.take_turn-state.new.token.me.0 c.into_badge.ensures.2 (c.seat.invariant.number ∙ (ap (λ m. m.0.number) (sym c.lift-token.ensures.me) ∙ ap (λ m. m.0.number) (sym taken.is))) c.seat.invariant.some
    (ap (λ m. m.0.out) taken.is)

pub returns : goal.returns
returns g c =
    let C = g.S.Chronicle in
    let B = c.seat.inside.badge in
    let badge = c.into_badge.result in
    let up = c.lift-token.ensures in
    let taken = c.take_turn-state.ensures.took in
    let one = c.into_badge.ensures.2 in
    let state = c.take_turn-state.result in record {
      stands = subst (λ v. C.stands state v.seen) (sym (ap view_in one)) taken.is_state;
      legal = g.met.S.Chronicle.stands_legal state _ (subst (λ v. C.stands state v.seen) (sym (ap view_in one)) taken.is_state);
      room = subst (λ v. count v.seen < 2 ^ 62) (sym (ap view_in one)) taken.room;
      seat = take_done C.is_legal C.stands C.counted B.table_id badge.table_id c.lift-token.result.me c.take_turn-state.new.token.me badge.views
          (c.into_badge.ensures.0 ∙ (c.take_turn-state.ensures.table ∙ up.table)) one c.args.seat.now (ap (λ m. sitting B.table_id m.0) up.me ∙ c.seat.view_is) state taken;
    }
