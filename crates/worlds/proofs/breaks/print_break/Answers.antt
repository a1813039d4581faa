use Rattle.std.proofs.Common.{◌++◌, ◌∷◌, []}
use Rattle.std.specs.Prelude.{codes}
use Rattle.hex.specs.Hex.{encode_lower}
use Rattle.edge_io.proofs.Ends.{end_last, on_err, part_first, part_last, part_then}
use Rattle.worlds.proofs.breaks.print_break.Goals as goal

pub returns-in_err-write_all-clause-part : goal.returns-in_err-write_all-clause-part
returns-in_err-write_all-clause-part g c = on_err _ _
    (part_first (g.K.Sink.contents c.args.sink.now) (g.K.Sink.contents c.write_all.new.sink) (codes "log-broken ") (encode_lower c.args.id.now ++ 10 ∷ []) c.in_err-write_all.ensures.part)

pub returns-in_err-write_all-2-clause-part : goal.returns-in_err-write_all-2-clause-part
returns-in_err-write_all-2-clause-part g c = on_err _ _
    (part_then (g.K.Sink.contents c.args.sink.now) (g.K.Sink.contents c.write_all.new.sink) (g.K.Sink.contents c.write_all-2.new.sink) (codes "log-broken ") (encode_lower c.args.id.now ++ 10 ∷ []) c.in_ok-write_all.ensures.whole
    (part_first (g.K.Sink.contents c.write_all.new.sink) (g.K.Sink.contents c.write_all-2.new.sink) (encode_lower c.args.id.now) (10 ∷ []) (rw c.to_hex.ensures at c.in_err-write_all-2.ensures.part)))

pub returns-clause-whole : goal.returns-clause-whole
returns-clause-whole g c =
    end_last c.write_all-3.result (g.K.Sink.contents c.args.sink.now) (g.K.Sink.contents c.write_all.new.sink) (g.K.Sink.contents c.write_all-3.new.sink) (codes "log-broken ") (encode_lower c.args.id.now ++ 10 ∷ []) c.in_ok-write_all.ensures.whole
    (end_last c.write_all-3.result (g.K.Sink.contents c.write_all.new.sink) (g.K.Sink.contents c.write_all-2.new.sink) (g.K.Sink.contents c.write_all-3.new.sink) (encode_lower c.args.id.now) (10 ∷ []) (rw c.to_hex.ensures at c.in_ok-write_all-2.ensures.whole) c.write_all-3.ensures.whole)

pub returns-clause-part : goal.returns-clause-part
returns-clause-part g c =
    part_last c.write_all-3.result (g.K.Sink.contents c.args.sink.now) (g.K.Sink.contents c.write_all.new.sink) (g.K.Sink.contents c.write_all-3.new.sink) (codes "log-broken ") (encode_lower c.args.id.now ++ 10 ∷ []) c.in_ok-write_all.ensures.whole
    (part_last c.write_all-3.result (g.K.Sink.contents c.write_all.new.sink) (g.K.Sink.contents c.write_all-2.new.sink) (g.K.Sink.contents c.write_all-3.new.sink) (encode_lower c.args.id.now) (10 ∷ []) (rw c.to_hex.ensures at c.in_ok-write_all-2.ensures.whole) c.write_all-3.ensures.part)
