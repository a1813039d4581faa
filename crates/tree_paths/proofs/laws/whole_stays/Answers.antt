use Rattle.tree_paths.specs.Repositories.{readings_of}
use Rattle.tree_paths.proofs.GrowingPeels.{walk_same}
use Rattle.tree_paths.proofs.GrowingReadings.{more_read}
use Rattle.tree_paths.proofs.laws.whole_stays.Goals as goal

pub returns : goal.returns
returns c = λ small large target grown sound. walk_same (readings_of small) (readings_of large) (more_read small large grown) target sound
