use Rattle.std.proofs.Common.{refl, sym, subst}
use Rattle.desk_messages.specs.declared.requests.Asked.{Asked}
use Rattle.desk_http.specs.Connections.{Answered}
use Rattle.desk_http.specs.declared.connections.End.TheVariants.{LinkFailed, Silent}
use Rattle.desk_http.proofs.Replying.{memory, push, refusal, stream, tip, verdict}
use Rattle.desk_http.proofs.answering.answer.Goals as goal

pub returns-in-Tip-clause-answered : goal.returns-in-Tip-clause-answered
returns-in-Tip-clause-answered g c =
    subst (λ (a : Asked). Answered g.D.Serves g.K.Sink c.args.desk.now a c.args.seat.now c.tip.new.seat c.args.sink.now c.tell_tip.new.sink c.tell_tip.result) (sym c.in-Tip.is)
    (tip g.D.Serves g.K.Sink c.args.desk.now c.args.seat.now c.tip.new.seat c.args.sink.now c.tell_tip.new.sink c.tell_tip.result c.tip.result c.tip.ensures.answer c.tell_tip.ensures)

pub returns-in-Verify-clause-answered : goal.returns-in-Verify-clause-answered
returns-in-Verify-clause-answered g c =
    subst (λ (a : Asked). Answered g.D.Serves g.K.Sink c.args.desk.now a c.args.seat.now c.verdict.new.seat c.args.sink.now c.tell_text.new.sink c.tell_text.result) (sym c.in-Verify.is)
    (verdict g.D.Serves g.K.Sink c.args.desk.now c.args.seat.now c.verdict.new.seat c.args.sink.now c.tell_text.new.sink c.tell_text.result _ c.verdict.result c.verdict.ensures.answer c.tell_text.ensures)

pub returns-in-Stream-clause-answered : goal.returns-in-Stream-clause-answered
returns-in-Stream-clause-answered g c =
    subst (λ (a : Asked). Answered g.D.Serves g.K.Sink c.args.desk.now a c.args.seat.now c.stream.new.seat c.args.sink.now c.tell_text-in-Stream.new.sink c.tell_text-in-Stream.result) (sym c.in-Stream.is)
    (stream g.D.Serves g.K.Sink c.args.desk.now c.args.seat.now c.stream.new.seat c.args.sink.now c.tell_text-in-Stream.new.sink c.tell_text-in-Stream.result c.stream.result c.stream.ensures.answer c.tell_text-in-Stream.ensures)

pub returns-in-Push-clause-answered : goal.returns-in-Push-clause-answered
returns-in-Push-clause-answered g c =
    subst (λ (a : Asked). Answered g.D.Serves g.K.Sink c.args.desk.now a c.args.seat.now c.push.new.seat c.args.sink.now c.tell_pushed.new.sink c.tell_pushed.result) (sym c.in-Push.is)
    (push g.D.Serves g.K.Sink c.args.desk.now c.args.seat.now c.push.new.seat c.args.sink.now c.tell_pushed.new.sink c.tell_pushed.result _ c.push.result c.push.ensures.answer c.tell_pushed.ensures)

pub returns-in-Refused-clause-answered : goal.returns-in-Refused-clause-answered
returns-in-Refused-clause-answered g c =
    subst (λ (a : Asked). Answered g.D.Serves g.K.Sink c.args.desk.now a c.args.seat.now c.args.seat.now c.args.sink.now c.tell_refusal.new.sink c.tell_refusal.result) (sym c.in-Refused.is)
    (refusal g.D.Serves g.K.Sink c.args.desk.now c.args.seat.now c.args.seat.now c.args.sink.now c.tell_refusal.new.sink c.tell_refusal.result _ refl c.tell_refusal.ensures)

pub returns-in-Memory-clause-answered : goal.returns-in-Memory-clause-answered
returns-in-Memory-clause-answered g c =
    subst (λ (a : Asked). Answered g.D.Serves g.K.Sink c.args.desk.now a c.args.seat.now c.args.seat.now c.args.sink.now c.tell_reply.new.sink c.tell_reply.result) (sym c.in-Memory.is)
    (memory g.D.Serves g.K.Sink c.args.desk.now c.args.seat.now c.args.seat.now c.args.sink.now c.tell_reply.new.sink c.tell_reply.result refl c.tell_reply.ensures)

pub returns-in-Silent-clause-answered : goal.returns-in-Silent-clause-answered
returns-in-Silent-clause-answered g c =
    subst (λ (a : Asked). Answered g.D.Serves g.K.Sink c.args.desk.now a c.args.seat.now c.args.seat.now c.args.sink.now c.args.sink.now Silent) (sym c.in-Silent.is)
    (record { end_is = refl; same_seat = refl; same_sink = refl })

pub returns-in-LinkFailed-clause-answered : goal.returns-in-LinkFailed-clause-answered
returns-in-LinkFailed-clause-answered g c =
    subst (λ (a : Asked). Answered g.D.Serves g.K.Sink c.args.desk.now a c.args.seat.now c.args.seat.now c.args.sink.now c.args.sink.now LinkFailed) (sym c.in-LinkFailed.is)
    (record { end_is = refl; same_seat = refl; same_sink = refl })
