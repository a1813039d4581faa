use Rattle.judged_logs.proofs.Gated.{holds}
use Rattle.judged_logs.proofs.larger_laws.lawful_stays.Goals as goal

pub returns : goal.returns
returns g c = λ rules loaded taken r lasting in_one none epochs run. holds rules lasting loaded taken r in_one none epochs run
