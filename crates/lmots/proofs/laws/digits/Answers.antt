use Rattle.std.proofs.Common.{length}
use Rattle.lmots.proofs.SpelledBytes.{same_number}
use Rattle.lmots.proofs.laws.digits.Goals as goal

pub returns : goal.returns
returns c = same_number c.args.kind c.args.string.now (length c.args.string.now) (λ i. (c.type_inv.string i).fits)
