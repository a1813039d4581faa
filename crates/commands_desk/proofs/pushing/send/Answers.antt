use Rattle.commands_desk.proofs.Sent.{quiet, told}
use Rattle.commands_desk.proofs.pushing.send.Goals as goal

pub returns-in-Ok-ask_desk-clause-sends : goal.returns-in-Ok-ask_desk-clause-sends
returns-in-Ok-ask_desk-clause-sends g c =
    told c.args.port c.args.text.now (g.P.Peer.connected c.args.peer.now) (g.P.Peer.connected c.ask_desk.new.peer)
    (g.P.Peer.given c.args.peer.now) (g.P.Peer.given c.ask_desk.new.peer) (g.P.Peer.left c.args.peer.now) (g.P.Peer.left c.ask_desk.new.peer)
    (g.K.Sink.contents c.args.sink.now) (g.K.Sink.contents c.tell.new.sink) c.in-Ok-ask_desk.ensures.port
    c.in-Ok-ask_desk.answer c.tell.result c.in-Ok-ask_desk.ensures.asked c.tell.ensures.tells

pub returns-in-Ok-ask_desk-clause-peer : goal.returns-in-Ok-ask_desk-clause-peer
returns-in-Ok-ask_desk-clause-peer g c =
    quiet (g.K.Sink.contents c.args.sink.now) (g.K.Sink.contents c.tell.new.sink) c.in-Ok-ask_desk.answer c.tell.result
    (g.P.Peer.faults c.args.peer.now) (g.P.Peer.faults c.ask_desk.new.peer) c.in-Ok-ask_desk.ensures.cause.later c.in-Ok-ask_desk.ensures.cause.is c.tell.ensures.tells
