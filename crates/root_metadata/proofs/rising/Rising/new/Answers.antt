use Rattle.root_metadata.proofs.Sortedness.{rising_none}
use Rattle.root_metadata.proofs.rising.Rising.new.Goals as goal

pub invariant_of-result : goal.invariant_of-result
invariant_of-result g c = rw c.new.ensures (rising_none g.T.Keyed.key)
