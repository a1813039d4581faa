use Rattle.std.specs.Prelude.{All}
use Rattle.desk_turns.specs.Seats.{TurnId, IsIdle}
use Rattle.tests_turns.proofs.workers.workers_of.Given as goal

-- the seats that are left and those of the workers are idle
abbrev pub invariant-seats : goal.invariant-seats
invariant-seats l = (t : TurnId) → All (IsIdle t) l.fn.seats.items → All (IsIdle t) l.seats.items × All (λ w. IsIdle t w.seat) l.workers.items
