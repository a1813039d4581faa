use Rattle.judged_logs.proofs.Passing.{gate_holds}
use Rattle.judged_logs.proofs.larger_laws.gate_holds.Goals as goal

pub returns : goal.returns
returns g c = λ rules loaded r outcomes lasting in_one none epochs all. gate_holds rules lasting loaded r outcomes in_one none epochs all
