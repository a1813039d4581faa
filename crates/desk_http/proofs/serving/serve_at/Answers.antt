use Rattle.std.proofs.Common.{All, sym, subst, ap, length, arith}
use Rattle.desk_turns.specs.Seats.{IsIdle}
use Rattle.desk_http.proofs.SeatsServed.{all_first, all_served}
use Rattle.desk_http.proofs.serving.serve_at.Goals as goal

pub serve_all-requires-after_bounds : goal.serve_all-requires-after_bounds
serve_all-requires-after_bounds g c κs within =
    subst (All (λ w. IsIdle c.args.desk.now w.seat)) (sym c.as_mut_slice.ensures.value) (c.in-Ok.ensures.idle c.args.desk.now c.requires.idle)

pub returns-then-are_served-clause-served : goal.returns-then-are_served-clause-served
returns-then-are_served-clause-served g c =
    let value = c.as_mut_slice.ensures.value in
    all_served c.in-Ok.workers.items c.as_mut_slice.result.now c.serve_all.new.workers c.in-Ok.workers.len value (omega (arith, c.as_mut_slice.ensures.len, ap length value))
    (c.in-Ok.ensures.first c.args.desk.now (all_first c.args.desk.now c.args.seats.items c.requires.new)) c.serve_all.ensures

pub returns-else-are_served-clause-served : goal.returns-else-are_served-clause-served
returns-else-are_served-clause-served g c =
    let value = c.as_mut_slice.ensures.value in
    all_served c.in-Ok.workers.items c.as_mut_slice.result.now c.serve_all.new.workers c.in-Ok.workers.len value (omega (arith, c.as_mut_slice.ensures.len, ap length value))
    (c.in-Ok.ensures.first c.args.desk.now (all_first c.args.desk.now c.args.seats.items c.requires.new)) c.serve_all.ensures
