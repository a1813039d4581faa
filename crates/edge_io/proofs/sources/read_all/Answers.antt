use Rattle.edge_io.proofs.Taken.{few_taken, more_taken}
use Rattle.edge_io.proofs.sources.read_all.Goals as goal

pub returns-then-count-max-clause-too_long : goal.returns-then-count-max-clause-too_long
returns-then-count-max-clause-too_long g c = λ _.
    let ok = c.in_ok-count.ensures in
    more_taken (g.S.Source.left c.args.source.now) (g.S.Source.left c.pieces.source) (g.S.Source.left c.read.new.self) c.pieces.bytes c.read.new.buf c.in_ok-count.count c.args.max
    c.pieces.invariant.read ok.bytes c.pieces.invariant.short ok.bound (search (Rattle.std.proofs.Common.rules)) (search (Rattle.std.proofs.Common.rules))

pub returns-in_err-append-clause-memory : goal.returns-in_err-append-clause-memory
returns-in_err-append-clause-memory g c = λ _.
    let ok = c.in_ok-count.ensures in
    few_taken (g.S.Source.left c.args.source.now) (g.S.Source.left c.pieces.source) (g.S.Source.left c.read.new.self) c.pieces.bytes c.read.new.buf c.in_ok-count.count c.args.max
    c.pieces.invariant.read ok.bytes c.pieces.invariant.short ok.bound (search (Rattle.std.proofs.Common.rules))
