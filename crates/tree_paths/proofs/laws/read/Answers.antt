use Rattle.tree_paths.proofs.Existence.{are_readings}
use Rattle.tree_paths.proofs.laws.read.Goals as goal

pub returns : goal.returns
returns c = are_readings
