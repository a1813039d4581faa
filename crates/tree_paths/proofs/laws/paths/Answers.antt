use Rattle.tree_paths.proofs.Led.{map_of_trees}
use Rattle.tree_paths.proofs.ObjectsRead.{tree_formed}
use Rattle.tree_paths.proofs.laws.paths.Goals as goal

pub returns : goal.returns
returns c = λ r readings are. map_of_trees readings.trees (λ id. tree_formed r id (readings.trees id) (are.trees id))
