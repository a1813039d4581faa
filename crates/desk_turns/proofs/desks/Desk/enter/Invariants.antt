use Rattle.std.proofs.Common.{◌<◌}
use Rattle.desk_turns.specs.Calls.{OnlySees}
use Rattle.desk_turns.proofs.desks.Desk.enter.Given as goal

-- so far the seat has only seen more
abbrev pub invariant-loop : goal.invariant-loop
invariant-loop g l =
    (goal.iterator-loop g).can_next l.iterator' × (goal.iterator-loop g).is_finite l.iterator' × OnlySees g.S.Chronicle.is_legal l.fn.seat l.seat × (0 < l.seat.number)
