use Rattle.lmots.proofs.LesserDigit.{less_somewhere}
use Rattle.lmots.proofs.laws.winternitz.Goals as goal

pub returns : goal.returns
returns c =
    less_somewhere c.args.kind c.args.first.now c.args.second.now
    (record { long = c.requires.first; bytes = λ i. (c.type_inv.first i).fits })
    (record { long = c.requires.second; bytes = λ i. (c.type_inv.second i).fits })
