use Rattle.std.proofs.Common.{◌∙◌, arith}
use Rattle.std.proofs.lemmas.List.{length-append}
use Rattle.desk_messages.proofs.Pieces.{piece_read}
use Rattle.desk_messages.proofs.bodies.fill.Goals as goal

pub pieces-preserved : goal.pieces-preserved
pieces-preserved g c =
    let front = c.split_at_mut-space.result.0.now in
    let ok = c.in_ok-count.ensures in
    let split = c.split_at_mut-space.ensures in
    let whole = length-append front c.read.new.buf in
    record {
      within = omega (arith, ok.bound, split.front_len, whole);
      read = piece_read (g.S.Source.left c.args.source.now) (g.S.Source.left c.pieces.source) (g.S.Source.left c.read.new.self) c.pieces.out front c.read.new.buf c.pieces.len c.in_ok-count.count
          c.pieces.invariant.read ok.bytes split.front split.front_len;
      quiet = ok.cause.is ∙ c.pieces.invariant.quiet;
    }
