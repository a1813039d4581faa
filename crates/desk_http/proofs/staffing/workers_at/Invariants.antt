use Rattle.std.specs.Prelude.{◌≡◌, ◌+◌, None, All, length}
use Rattle.desk_turns.specs.Seats.{TurnId, IsIdle}
use Rattle.desk_http.specs.Served.{IsFirst}
use Rattle.desk_http.proofs.staffing.workers_at.Given as goal

-- what holds of each seat holds of those that are left and of those of the workers, which are as many together, and none of
-- which has ended
abbrev pub invariant-seats : goal.invariant-seats
invariant-seats l = record {
  idle : (t : TurnId) → All (IsIdle t) l.fn.seats.items → All (IsIdle t) l.seats.items × All (λ w. IsIdle t w.seat) l.workers.items;
  first : (t : TurnId) → All (IsFirst t) l.fn.seats.items → All (IsFirst t) l.seats.items × All (λ w. IsFirst t w.seat) l.workers.items;
  fresh : All (λ w. w.end ≡ None) l.workers.items;
  count : length l.workers.items + length l.seats.items ≡ length l.fn.seats.items;
}

abbrev pub decreases-seats : goal.decreases-seats
decreases-seats l = length l.seats.items
