use Rattle.tree_paths.proofs.Existence.{readings_are}
use Rattle.tree_paths.proofs.laws.readings.Goals as goal

pub returns : goal.returns
returns c = readings_are
