use Rattle.edge_io.proofs.Ends.{end_last, on_err, part_first, part_last}
use Rattle.commands_mirror.proofs.offer_lines.put_both.Goals as goal

pub returns-in_err-write_all-clause-part : goal.returns-in_err-write_all-clause-part
returns-in_err-write_all-clause-part g c = on_err _ _
    (part_first (g.K.Sink.contents c.args.sink.now) (g.K.Sink.contents c.write_all.new.sink) (c.args.first.now) (c.args.second.now) c.in_err-write_all.ensures.part)

pub returns-clause-whole : goal.returns-clause-whole
returns-clause-whole g c =
    end_last c.write_all-2.result (g.K.Sink.contents c.args.sink.now) (g.K.Sink.contents c.write_all.new.sink) (g.K.Sink.contents c.write_all-2.new.sink) (c.args.first.now) (c.args.second.now)
    c.in_ok-write_all.ensures.whole c.write_all-2.ensures.whole

pub returns-clause-part : goal.returns-clause-part
returns-clause-part g c =
    part_last c.write_all-2.result (g.K.Sink.contents c.args.sink.now) (g.K.Sink.contents c.write_all.new.sink) (g.K.Sink.contents c.write_all-2.new.sink) (c.args.first.now) (c.args.second.now)
    c.in_ok-write_all.ensures.whole c.write_all-2.ensures.part
