use Rattle.tree_paths.proofs.GrowingReadings.{known_same}
use Rattle.tree_paths.proofs.laws.known_stays.Goals as goal

pub returns : goal.returns
returns c = known_same
