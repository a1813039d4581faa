use Rattle.entry_rules.specs.RealRules.{real_rules}
use Rattle.judged_logs.proofs.Passing.{gate_holds}
use Rattle.desk_core.proofs.Lasts.{last}
use Rattle.desk_core.proofs.lasting_laws.gate_holds.Goals as goal

pub returns : goal.returns
returns c = λ anchor loaded r outcomes in_one none epochs all. gate_holds (real_rules anchor) (last anchor) loaded r outcomes in_one none epochs all
