use Rattle.tree_paths.proofs.GrowingReadings.{more_read}
use Rattle.tree_paths.proofs.laws.more_readings.Goals as goal

pub returns : goal.returns
returns c = more_read
