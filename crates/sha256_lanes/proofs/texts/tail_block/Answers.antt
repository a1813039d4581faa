use Rattle.std.proofs.Common.{◌-◌, ◌/◌, ◌++◌, length, ◌∙◌, arith}
use Rattle.sha2.specs.Sha256.{padded_message}
use Rattle.sha256_lanes.specs.Texts.{blocks_of}
use Rattle.sha256_lanes.proofs.Cut.{tail_piece}
use Rattle.sha256_lanes.proofs.texts.tail_block.Goals as goal

pub returns : goal.returns
returns c =
    let m = c.args.head.now ++ c.args.body.now in
    λ lt. c.piece.ensures ∙ tail_piece c.tail_of.result (padded_message m) (length m / 64) (blocks_of m - length m / 64) c.args.after c.tail_of.ensures (omega (arith, lt))
