use Rattle.std.proofs.Common.{◌++◌, ◌∷◌, []}
use Rattle.clone_stream.proofs.Pieces.{on_err, part_first, part_last, part_then}
use Rattle.clone_stream.proofs.record_writes.write_pieces.Goals as goal

pub returns-in_err-write_all-clause-part : goal.returns-in_err-write_all-clause-part
returns-in_err-write_all-clause-part g c = on_err _ _
    (part_first (g.K.Sink.contents c.args.sink.now) (g.K.Sink.contents c.write_all.new.sink) c.args.line.now (c.args.body.now ++ 10 ∷ []) c.in_err-write_all.ensures.part)

pub returns-in_err-write_all-2-clause-part : goal.returns-in_err-write_all-2-clause-part
returns-in_err-write_all-2-clause-part g c = on_err _ _
    (part_then (g.K.Sink.contents c.args.sink.now) (g.K.Sink.contents c.write_all.new.sink) (g.K.Sink.contents c.write_all-2.new.sink) c.args.line.now (c.args.body.now ++ 10 ∷ []) c.in_ok-write_all.ensures.whole
    (part_first (g.K.Sink.contents c.write_all.new.sink) (g.K.Sink.contents c.write_all-2.new.sink) c.args.body.now (10 ∷ []) c.in_err-write_all-2.ensures.part))

pub returns-clause-part : goal.returns-clause-part
returns-clause-part g c =
    part_last c.write_all-3.result (g.K.Sink.contents c.args.sink.now) (g.K.Sink.contents c.write_all.new.sink) (g.K.Sink.contents c.write_all-3.new.sink) c.args.line.now (c.args.body.now ++ 10 ∷ []) c.in_ok-write_all.ensures.whole
    (part_last c.write_all-3.result (g.K.Sink.contents c.write_all.new.sink) (g.K.Sink.contents c.write_all-2.new.sink) (g.K.Sink.contents c.write_all-3.new.sink) c.args.body.now (10 ∷ []) c.in_ok-write_all-2.ensures.whole c.write_all-3.ensures.part)
