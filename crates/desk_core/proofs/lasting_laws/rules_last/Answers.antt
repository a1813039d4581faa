use Rattle.desk_core.proofs.Lasts.{last}
use Rattle.desk_core.proofs.lasting_laws.rules_last.Goals as goal

pub returns : goal.returns
returns c = last
