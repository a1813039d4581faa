use Rattle.std.proofs.Common.{◌++◌}
use Rattle.std.specs.Prelude.{codes, decimal}
use Rattle.edge_io.proofs.Ends.{end_last, on_err, part_first, part_last}
use Rattle.commands_mirror.specs.Lines.{ids_line}
use Rattle.commands_mirror.proofs.offer_lines.print_fork.Goals as goal

pub returns-in_err-print_number-clause-part : goal.returns-in_err-print_number-clause-part
returns-in_err-print_number-clause-part g c = on_err _ _
    (part_first (g.K.Sink.contents c.args.sink.now) (g.K.Sink.contents c.print_number.new.sink) (codes "forked " ++ (decimal c.args.number ++ codes " ")) (ids_line c.args.kept.now c.args.offered.now) c.in_err-print_number.ensures.part)

pub returns-clause-whole : goal.returns-clause-whole
returns-clause-whole g c =
    end_last c.print_ids.result (g.K.Sink.contents c.args.sink.now) (g.K.Sink.contents c.print_number.new.sink) (g.K.Sink.contents c.print_ids.new.sink) (codes "forked " ++ (decimal c.args.number ++ codes " ")) (ids_line c.args.kept.now c.args.offered.now)
    c.in_ok-print_number.ensures.whole c.print_ids.ensures.whole

pub returns-clause-part : goal.returns-clause-part
returns-clause-part g c =
    part_last c.print_ids.result (g.K.Sink.contents c.args.sink.now) (g.K.Sink.contents c.print_number.new.sink) (g.K.Sink.contents c.print_ids.new.sink) (codes "forked " ++ (decimal c.args.number ++ codes " ")) (ids_line c.args.kept.now c.args.offered.now)
    c.in_ok-print_number.ensures.whole c.print_ids.ensures.part
