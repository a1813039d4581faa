use Rattle.std.proofs.Common.{◌≡◌, ◌<◌, ◌^◌, sym, ap, ◌∙◌, subst}
use Rattle.desk_turns.specs.Histories.{count}
use Rattle.desk_turns.specs.Views.{sitting}
use Rattle.desk_turns.proofs.Sittings.{leave_done, is_seat}
use Rattle.desk_turns.proofs.turns.Turn.leave.Goals as goal

pub give_back-requires : goal.give_back-requires
give_back-requires g c =
    let C = g.S.Chronicle in
    let up = c.lift-token.ensures in
    let is = c.seat.view_is in
    let seen = ap (λ m. m.0.seen) up.me ∙ ap (λ s. s.seen) is in record {
      table = (up.table ∙ (ap (λ s. s.turn) is ∙ (c.requires.turn ∙ sym c.self.view_is)), c.self.invariant);
      holds = (
        ap (λ m. m.0.holds) up.me ∙ (ap (λ s. s.holds) is ∙ c.requires.holds),
        ap (λ m. m.0.out) up.me ∙ c.seat.invariant.home,
      );
      slot = ap (λ m. m.1) up.me;
      stands = subst (λ h. C.stands c.args.state h) (sym seen) c.requires.stands;
      room = subst (λ h. count h < 2 ^ 62) (sym seen) c.requires.room;
    }

pub invariant_of-seat : goal.invariant_of-seat
invariant_of-seat g c =
    let gave = c.give_back.ensures.is in
    let number = ap (λ m. m.0.number) (sym c.lift-token.ensures.me) ∙ ap (λ m. m.0.number) (sym gave) in
    is_seat _ c.give_back.new.token.me.0 c.into_badge.ensures.2 (c.seat.invariant.number ∙ number)
    c.seat.invariant.some (ap (λ m. m.0.out) gave)

pub returns : goal.returns
returns g c =
    let C = g.S.Chronicle in
    let B = c.seat.inside.badge in
    let badge = c.into_badge.result in
    let up = c.lift-token.ensures in
    let table = c.into_badge.ensures.0 ∙ (c.give_back.ensures.table ∙ up.table) in
    let was = ap (λ m. sitting B.table_id m.0) up.me ∙ c.seat.view_is in
    let done = leave_done C.is_legal C.stands C.counted B.table_id badge.table_id c.lift-token.result.me
    c.give_back.new.token.me badge.views table c.into_badge.ensures.2 c.args.seat.now was
    c.args.state c.give_back.ensures.is in record {
      seat = done;
      legal = subst C.is_legal (sym (ap (λ s. s.seen) done))
          (g.met.S.Chronicle.stands_legal c.args.state _ c.requires.stands);
    }
