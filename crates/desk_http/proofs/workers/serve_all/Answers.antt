use Rattle.std.proofs.Common.{subst}
use Rattle.std.specs.Prelude.{slice_index_or}
use Rattle.desk_http.specs.Workers.{IsServed}
use Rattle.desk_http.specs.declared.workers.Worker.{Worker}
use Rattle.desk_http.proofs.workers.serve_all.Goals as goal

pub returns-then-threads-gt0 : goal.returns-then-threads-gt0
returns-then-threads-gt0 g c = λ i d lt.
    let at = (c.for_each_mut.ensures i d lt).1 in
    let served : IsServed g.D.Serves g.E.Input.Source g.E.Output.Sink (record { waiting = g.E.Door.waiting; back = g.E.Door.handed_back; faults = g.E.Door.faults }) c.args.desk.now
    c.args.connections at.argument.now at.after_call.now = at.call in
    subst (λ (new : Worker _). IsServed g.D.Serves g.E.Input.Source g.E.Output.Sink (record { waiting = g.E.Door.waiting; back = g.E.Door.handed_back; faults = g.E.Door.faults }) c.args.desk.now
    c.args.connections (slice_index_or c.args.workers.now i d) new) at.left
    (subst (λ (old : Worker _). IsServed g.D.Serves g.E.Input.Source g.E.Output.Sink (record { waiting = g.E.Door.waiting; back = g.E.Door.handed_back; faults = g.E.Door.faults }) c.args.desk.now
    c.args.connections old at.after_call.now) at.argument_is served)
