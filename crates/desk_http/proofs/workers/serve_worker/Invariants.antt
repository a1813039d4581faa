use Rattle.std.proofs.Common.{◌≡◌}
use Rattle.desk_turns.specs.Seats.{IsIdle}
use Rattle.desk_http.specs.Workers.{ServesQuietly}
use Rattle.desk_http.proofs.workers.serve_worker.Given as goal

-- so many connections were served, and each was handed back
abbrev pub invariant-connections : goal.invariant-connections
invariant-connections g l = record {
  idle : IsIdle (g.D.Serves.turn l.fn.desk) l.worker.seat;
  served : ServesQuietly g.D.Serves g.E.Input.Source g.E.Output.Sink (record { waiting = g.E.Door.waiting; back = g.E.Door.handed_back; faults = g.E.Door.faults }) l.fn.desk l.served l.fn.worker.door l.worker.door l.fn.worker.seat l.worker.seat;
  counted : l.served ≡ l.counter;
}
