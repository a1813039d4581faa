use Rattle.std.proofs.Common.{◌++◌}
use Rattle.std.specs.Prelude.{codes}
use Rattle.hex.specs.Hex.{encode_lower}
use Rattle.edge_io.proofs.Ends.{end_last, on_err, part_first, part_last}
use Rattle.commands_mirror.proofs.offer_lines.print_ids.Goals as goal

pub returns-in_err-print_id-clause-part : goal.returns-in_err-print_id-clause-part
returns-in_err-print_id-clause-part g c = on_err _ _
    (part_first (g.K.Sink.contents c.args.sink.now) (g.K.Sink.contents c.print_id.new.sink) (encode_lower c.args.kept.now ++ codes " ") (encode_lower c.args.offered.now ++ codes "\n") c.in_err-print_id.ensures.part)

pub returns-clause-whole : goal.returns-clause-whole
returns-clause-whole g c =
    end_last c.print_id-2.result (g.K.Sink.contents c.args.sink.now) (g.K.Sink.contents c.print_id.new.sink) (g.K.Sink.contents c.print_id-2.new.sink) (encode_lower c.args.kept.now ++ codes " ") (encode_lower c.args.offered.now ++ codes "\n")
    c.in_ok-print_id.ensures.whole c.print_id-2.ensures.whole

pub returns-clause-part : goal.returns-clause-part
returns-clause-part g c =
    part_last c.print_id-2.result (g.K.Sink.contents c.args.sink.now) (g.K.Sink.contents c.print_id.new.sink) (g.K.Sink.contents c.print_id-2.new.sink) (encode_lower c.args.kept.now ++ codes " ") (encode_lower c.args.offered.now ++ codes "\n")
    c.in_ok-print_id.ensures.whole c.print_id-2.ensures.part
