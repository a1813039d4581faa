use Rattle.commands_snapshot.proofs.OneSnapshot.{same_snapshot}
use Rattle.commands_snapshot.proofs.outcome_laws.one_of_trees.Goals as goal

pub returns : goal.returns
returns c = record { snapshot = same_snapshot }
