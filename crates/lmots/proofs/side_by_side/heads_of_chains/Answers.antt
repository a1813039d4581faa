use Rattle.std.proofs.Common.{arith}
use Rattle.lmots.proofs.side_by_side.heads_of_chains.Goals as goal

pub returns : goal.returns
returns c = record { at = λ k lt. c.lanes.invariant.1 k (omega arith) }
