use Rattle.lms_keys.proofs.SameLeaf as proved
use Rattle.lms_keys.proofs.laws.one_leaf.Goals as goal

pub returns : goal.returns
returns c = proved.one_leaf
