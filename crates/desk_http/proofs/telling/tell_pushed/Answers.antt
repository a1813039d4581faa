use Rattle.std.proofs.Common.{ℕ, List, sym, subst}
use Rattle.desk_http.specs.ServingAnswers.{pushed_body, pushed_code}
use Rattle.desk_http.specs.Connections.{Writes}
use Rattle.desk_http.specs.declared.serving_desks.Pushed.{Pushed}
use Rattle.desk_http.proofs.telling.tell_pushed.Goals as goal

pub returns-in-Replied : goal.returns-in-Replied
returns-in-Replied g c =
    subst (λ (p : Pushed). Writes g.K.Sink (pushed_code p) (pushed_body p) c.args.sink.now c.tell_reply.new.sink c.tell_reply.result) (sym c.in-Replied.is) c.tell_reply.ensures

pub returns-in-Denied : goal.returns-in-Denied
returns-in-Denied g c =
    subst (λ (p : Pushed). Writes g.K.Sink (pushed_code p) (pushed_body p) c.args.sink.now c.tell.new.sink c.tell.result) (sym c.in-Denied.is)
    (subst (λ (b : List ℕ). Writes g.K.Sink 403 b c.args.sink.now c.tell.new.sink c.tell.result) c.as_slice.ensures c.tell.ensures)
