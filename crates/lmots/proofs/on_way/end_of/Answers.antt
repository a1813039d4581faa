use Rattle.std.proofs.Common.{◌∙◌}
use Rattle.lmots.proofs.on_way.end_of.Goals as goal

pub walk-requires : goal.walk-requires
walk-requires c = c.requires.table.low c.args.chain c.requires.room

pub returns : goal.returns
returns c = λ n z lt on. c.walk.ensures ∙ on.goes c.args.chain lt
