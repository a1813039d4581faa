use Rattle.judged_logs.proofs.Staying.{authorised_stays, rescued_stays}
use Rattle.judged_logs.proofs.larger_laws.more_objects.Goals as goal

pub returns-clause-authorised : goal.returns-clause-authorised
returns-clause-authorised g c = λ rules log more i lasting grow epochs is. authorised_stays rules lasting log more grow epochs i is

pub returns-clause-rescued : goal.returns-clause-rescued
returns-clause-rescued g c = λ rules log more i lasting grow epochs is. rescued_stays rules lasting log more grow epochs i is
