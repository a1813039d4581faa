use Rattle.std.proofs.Common.{All, sym, subst}
use Rattle.desk_turns.specs.Seats.{IsIdle}
use Rattle.tests_turns.proofs.Seating.{all_more}
use Rattle.tests_turns.proofs.workers.workers_of.Goals as goal

pub seats-preserved : goal.seats-preserved
seats-preserved c = λ t idle.
    let i = c.seats.invariant t idle in (
      c.in-Some.ensures.left t i.0,
      subst (All (λ w. IsIdle t w.seat)) (sym c.in_ok-push.ensures.items)
          (all_more (λ w. IsIdle t w.seat) c.seats.workers.items _ i.1 (c.in-Some.ensures.seat t i.0)),
    )
