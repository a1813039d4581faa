use Rattle.std.proofs.Common.{◌++◌}
use Rattle.std.specs.Prelude.{codes, decimal}
use Rattle.edge_io.proofs.Ends.{end_last, on_err, part_first, part_last}
use Rattle.commands_mirror.proofs.offer_lines.print_numbers.Goals as goal

pub returns-in_err-print_number-clause-part : goal.returns-in_err-print_number-clause-part
returns-in_err-print_number-clause-part g c = on_err _ _
    (part_first (g.K.Sink.contents c.args.sink.now) (g.K.Sink.contents c.print_number.new.sink) (c.args.word.now ++ (decimal c.args.first ++ codes " ")) (decimal c.args.second ++ codes "\n") c.in_err-print_number.ensures.part)

pub returns-clause-whole : goal.returns-clause-whole
returns-clause-whole g c =
    end_last c.print_last.result (g.K.Sink.contents c.args.sink.now) (g.K.Sink.contents c.print_number.new.sink) (g.K.Sink.contents c.print_last.new.sink) (c.args.word.now ++ (decimal c.args.first ++ codes " ")) (decimal c.args.second ++ codes "\n")
    c.in_ok-print_number.ensures.whole c.print_last.ensures.whole

pub returns-clause-part : goal.returns-clause-part
returns-clause-part g c =
    part_last c.print_last.result (g.K.Sink.contents c.args.sink.now) (g.K.Sink.contents c.print_number.new.sink) (g.K.Sink.contents c.print_last.new.sink) (c.args.word.now ++ (decimal c.args.first ++ codes " ")) (decimal c.args.second ++ codes "\n")
    c.in_ok-print_number.ensures.whole c.print_last.ensures.part
