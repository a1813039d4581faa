use Rattle.std.proofs.Common.{◌+◌, ℕ, refl, ap, subst}
use Rattle.std.specs.Prelude.{Option}
use Rattle.links.specs.Doors.{Gives}
use Rattle.desk_http.proofs.ServingWorkers.{none_served, one_more_served}
use Rattle.desk_http.proofs.workers.serve_worker.Goals as goal

pub connections-init : goal.connections-init
connections-init g c = record {
  idle = c.requires;
  served = none_served g.D.Serves g.E.Input.Source g.E.Output.Sink (record { waiting = g.E.Door.waiting; back = g.E.Door.handed_back; faults = g.E.Door.faults }) c.args.desk.now
      c.args.worker.now.door c.args.worker.now.seat;
  counted = refl;
}

pub connections-preserved : goal.connections-preserved
connections-preserved g c =
    let gives = subst (λ (l : Option _). Gives l (g.E.Door.waiting c.connections.worker.door) (g.E.Door.waiting c.next.new.self)) c.in-Ok-Some.field-0-is c.in-Ok-Some.ensures.given in record {
      idle = c.serve_connection.ensures.idle;
      served = one_more_served g.D.Serves g.E.Input.Source g.E.Output.Sink (record { waiting = g.E.Door.waiting; back = g.E.Door.handed_back; faults = g.E.Door.faults }) c.args.desk.now
          c.connections.served c.args.worker.now.door c.connections.worker.door c.next.new.self c.done.new.self c.args.worker.now.seat c.connections.worker.seat c.serve_connection.new.seat
          c.in-Ok-Some.link c.serve_connection.new.link c.serve_connection.result c.connections.invariant.served gives c.in-Ok-Some.ensures.same c.in-Ok-Some.ensures.cause.is
          c.serve_connection.ensures.ends c.done.ensures.back c.done.ensures.same c.done.ensures.quiet;
      counted = ap (λ (n : ℕ). n + 1) c.connections.invariant.counted;
    }
