use Rattle.std.proofs.Common.{◌≡◌, ◌≤◌, ◌+◌, ℕ, length}
use Rattle.desk_turns.specs.Histories.{Begins}
use Rattle.desk_turns.specs.Seats.{mine, IsIdle}
use Rattle.tests_turns.proofs.workers.serve_worker.Given as goal

-- of the pushes so far, so many added an entry
abbrev pub invariant-pushes : goal.invariant-pushes
invariant-pushes g l = record {
  idle : IsIdle l.fn.turn l.worker.seat;
  number : l.worker.seat.number ≡ l.fn.worker.seat.number;
  later : Begins l.fn.worker.seat.seen l.worker.seat.seen;
  added : length (mine l.worker.seat) ≡ length (mine l.fn.worker.seat) + l.added;
  few : l.added ≤ l.counter;
}
