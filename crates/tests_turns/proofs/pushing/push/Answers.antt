use Rattle.std.proofs.Common.{◌≡◌, ◌≤◌, inl, refl, sym, ap, ◌∙◌, subst, arith, Ok, Err}
use Rattle.std.specs.Prelude.{length}
use Rattle.octets.specs.Causes.{HasCause}
use Rattle.tests_turns.specs.Shops.{AddsOne, Answers, refused_first, shop_failed}
use Rattle.tests_turns.proofs.Logs.{counts}
use Rattle.tests_turns.proofs.Pushed.{pushed, refused}
use Rattle.tests_turns.proofs.pushing.push.Goals as goal

pub leave_with-requires : goal.leave_with-requires
leave_with-requires g c =
    let took = c.take-shop.ensures in
    let is = took.seat.is in
    let add = c.in-Ok.ensures.done c.take-shop.new.seat.seen took.stands in
    let counted = ap (λ s. s.faults) is in
    let later = c.in-Ok.ensures.cause.later in record {
      turn = ap (λ s. s.turn) is ∙ c.requires.0;
      holds = ap (λ s. s.holds) is;
      member = (add.member, add.stands, inl (add.by ∙ c.number.ensures));
      room = omega (arith, add.number_is, add.small);
      faults = subst (λ n. n ≤ g.R.Keeper.faults c.step.new.self.keeper) (sym counted) later;
    }

pub leave-requires : goal.leave-requires
leave-requires g c =
    let took = c.take-shop.ensures in
    let is = took.seat.is in
    let counted = ap (λ s. s.faults) is in
    let later = c.in-Err.ensures.cause.later in record {
      turn = ap (λ s. s.turn) is ∙ c.requires.0;
      holds = ap (λ s. s.holds) is;
      stands = c.in-Err.ensures.refused c.take-shop.new.seat.seen took.stands;
      room = took.room;
      faults = subst (λ n. n ≤ g.R.Keeper.faults c.step.new.self.keeper) (sym counted) later;
    }

pub returns-in-Ok : goal.returns-in-Ok
returns-in-Ok g c =
    let took = c.take-shop.ensures in
    let mid = c.take-shop.new.seat in
    let K = g.R.Keeper in
    let shop = c.take-shop.result in
    let number = c.in-Ok.number in
    let length_is = counts K.content K.faults shop mid.seen took.stands in
    let is = pushed K.content K.faults c.args.after c.args.id.now c.args.seat.now mid c.leave_with.new.seat (K.faults shop.keeper) took.seat shop.clean c.step.new.self number
    (subst (λ n. Answers (refused_first shop.clean n c.args.after) (Ok number)) length_is c.in-Ok.ensures.first)
    (subst (λ n. AddsOne K.content K.faults mid.seen n c.args.id.now c.step.new.self number) c.number.ensures (c.in-Ok.ensures.done mid.seen took.stands)) c.leave_with.ensures.seat in
    record { pushed = is; idle = (is.same_turn ∙ c.requires.0, is.idle) }

pub returns-in-Err : goal.returns-in-Err
returns-in-Err g c =
    let took = c.take-shop.ensures in
    let mid = c.take-shop.new.seat in
    let K = g.R.Keeper in
    let shop = c.take-shop.result in
    let refusal = c.in-Err.refusal in
    let length_is = counts K.content K.faults shop mid.seen took.stands in
    let is = refused K.content K.faults c.args.after c.args.id.now c.args.seat.now mid c.leave.new.seat (K.faults shop.keeper) took.seat shop.clean c.step.new.self refusal
    (subst (λ n. Answers (refused_first shop.clean n c.args.after) (Err refusal)) length_is c.in-Err.ensures.first)
    (c.in-Err.ensures.refused mid.seen took.stands) c.leave.ensures.seat c.in-Err.ensures.cause in
    record { pushed = is; idle = (is.same_turn ∙ c.requires.0, is.idle) }
