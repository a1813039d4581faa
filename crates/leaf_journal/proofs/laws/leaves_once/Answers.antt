use Rattle.leaf_journal.specs.Runs.{in_use}
use Rattle.leaf_journal.proofs.Once.{once}
use Rattle.leaf_journal.proofs.laws.leaves_once.Goals as goal

pub returns : goal.returns
returns g c = once (in_use g.D.Disk)
