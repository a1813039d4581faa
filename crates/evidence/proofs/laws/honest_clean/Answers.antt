use Rattle.leaf_journal.specs.Runs.{in_use}
use Rattle.evidence.proofs.Clean.{clean}
use Rattle.evidence.proofs.laws.honest_clean.Goals as goal

pub returns : goal.returns
returns g c = clean (in_use g.D.Disk)
