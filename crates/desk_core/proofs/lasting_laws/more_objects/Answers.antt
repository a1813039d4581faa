use Rattle.entry_rules.specs.RealRules.{real_rules}
use Rattle.judged_logs.proofs.Staying.{authorised_stays, rescued_stays}
use Rattle.desk_core.proofs.Lasts.{last}
use Rattle.desk_core.proofs.lasting_laws.more_objects.Goals as goal

pub returns-clause-authorised : goal.returns-clause-authorised
returns-clause-authorised c = λ anchor log more i grow epochs is.
    authorised_stays (real_rules anchor) (last anchor) log more grow epochs i is

pub returns-clause-rescued : goal.returns-clause-rescued
returns-clause-rescued c = λ anchor log more i grow epochs is.
    rescued_stays (real_rules anchor) (last anchor) log more grow epochs i is
