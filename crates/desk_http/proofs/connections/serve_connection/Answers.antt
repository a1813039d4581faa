use Rattle.desk_http.proofs.Ending.{ended}
use Rattle.desk_http.proofs.connections.serve_connection.Goals as goal

pub returns-clause-ends : goal.returns-clause-ends
returns-clause-ends g c =
    let read = c.read_request-asked in
    ended g.D.Serves g.S.Source g.K.Sink c.args.desk.now c.args.seat.now c.answer-end.new.seat c.args.link.now (record { source = read.new.source; sink = c.answer-end.new.sink }) read.result c.answer-end.result
    (record { is = read.ensures.asked; whole = read.ensures.whole; front = read.ensures.front }) read.ensures.cause.is c.answer-end.ensures.answered
