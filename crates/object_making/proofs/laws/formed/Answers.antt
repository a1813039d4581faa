use Rattle.tree_paths.proofs.ObjectsRead.{tree_formed}
use Rattle.object_making.proofs.laws.formed.Goals as goal

pub returns : goal.returns
returns c = λ r readings are id. tree_formed r id (readings.trees id) (are.trees id)
