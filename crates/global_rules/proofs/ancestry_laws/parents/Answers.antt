use Rattle.global_rules.proofs.CommitsRead.{are_parents}
use Rattle.global_rules.proofs.ancestry_laws.parents.Goals as goal

pub returns : goal.returns
returns c = are_parents
