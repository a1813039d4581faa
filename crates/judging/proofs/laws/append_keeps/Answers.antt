use Rattle.judging.proofs.Readers.{stays}
use Rattle.judging.proofs.laws.append_keeps.Goals as goal

pub returns : goal.returns
returns g c = λ rules log more i a b. stays rules log more i a b
