use Rattle.std.proofs.Common.{ℕ, List, sym, subst}
use Rattle.std.specs.Prelude.{Result}
use Rattle.pushes.specs.declared.replies.Reply.{Reply}
use Rattle.desk_http.specs.ServingAnswers.{given_code, text_body}
use Rattle.desk_http.specs.Connections.{Writes}
use Rattle.desk_http.proofs.telling.tell_text.Goals as goal

pub returns-in-Ok : goal.returns-in-Ok
returns-in-Ok g c =
    subst (λ (t : Result (List ℕ) Reply). Writes g.K.Sink (given_code t) (text_body t) c.args.sink.now c.tell.new.sink c.tell.result) (sym c.in-Ok.is)
    (subst (λ (b : List ℕ). Writes g.K.Sink 200 b c.args.sink.now c.tell.new.sink c.tell.result) c.as_slice.ensures c.tell.ensures)

pub returns-in-Err : goal.returns-in-Err
returns-in-Err g c =
    subst (λ (t : Result (List ℕ) Reply). Writes g.K.Sink (given_code t) (text_body t) c.args.sink.now c.tell_reply.new.sink c.tell_reply.result) (sym c.in-Err.is) c.tell_reply.ensures
