use Rattle.std.proofs.Common.{ℕ, List, sym, subst}
use Rattle.std.specs.Prelude.{Result}
use Rattle.pushes.specs.declared.replies.Reply.{Reply}
use Rattle.desk_http.specs.ServingAnswers.{given_code, tip_body}
use Rattle.desk_http.specs.Connections.{Writes}
use Rattle.desk_http.proofs.telling.tell_tip.Goals as goal

pub returns-in-Ok : goal.returns-in-Ok
returns-in-Ok g c =
    subst (λ (t : Result (ℕ × List ℕ) Reply). Writes g.K.Sink (given_code t) (tip_body t) c.args.sink.now c.tell_entry.new.sink c.tell_entry.result) (sym c.in-Ok.is) c.tell_entry.ensures

pub returns-in-Err : goal.returns-in-Err
returns-in-Err g c =
    subst (λ (t : Result (ℕ × List ℕ) Reply). Writes g.K.Sink (given_code t) (tip_body t) c.args.sink.now c.tell_reply.new.sink c.tell_reply.result) (sym c.in-Err.is) c.tell_reply.ensures
