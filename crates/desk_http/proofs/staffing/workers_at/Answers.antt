use Rattle.std.proofs.Common.{◌≡◌, ◌∷◌, [], None, All, refl, sym, subst, ap, length, arith, length-append}
use Rattle.desk_turns.specs.Seats.{IsIdle}
use Rattle.desk_http.specs.Served.{IsFirst}
use Rattle.desk_http.proofs.Seating.{all_more}
use Rattle.desk_http.proofs.staffing.workers_at.Goals as goal

pub seats-preserved : goal.seats-preserved
seats-preserved c = record {
  idle = λ t idle.
      let i = c.seats.invariant.idle t idle in (
        c.in-Some.ensures.left t i.0,
        subst (All (λ w. IsIdle t w.seat)) (sym c.in-Ok-push.ensures.items)
            (all_more (λ w. IsIdle t w.seat) c.seats.workers.items _ i.1 (c.in-Some.ensures.seat t i.0)),
      );
  first = λ t first.
      let i = c.seats.invariant.first t first in (
        c.in-Some.ensures.left_first t i.0,
        subst (All (λ w. IsFirst t w.seat)) (sym c.in-Ok-push.ensures.items)
            (all_more (λ w. IsFirst t w.seat) c.seats.workers.items _ i.1 (c.in-Some.ensures.first t i.0)),
      );
  fresh = subst (All (λ w. w.end ≡ None)) (sym c.in-Ok-push.ensures.items) (all_more (λ w. w.end ≡ None) c.seats.workers.items _ c.seats.invariant.fresh refl);
  count = omega (arith, c.seats.invariant.count, c.in-Some.ensures.fewer, ap length c.in-Ok-push.ensures.items, length-append c.seats.workers.items (record { seat = c.in-Some.seat; door = c.in-Ok.door; end = None } ∷ []));
}
