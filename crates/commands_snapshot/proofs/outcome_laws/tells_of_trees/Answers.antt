use Rattle.commands_snapshot.proofs.ToldSnapshot.{tells_of_trees}
use Rattle.commands_snapshot.proofs.outcome_laws.tells_of_trees.Goals as goal

pub returns : goal.returns
returns g c = tells_of_trees g.R.Keeper
