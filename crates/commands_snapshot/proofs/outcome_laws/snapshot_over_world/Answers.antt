use Rattle.commands_snapshot.proofs.ToldWorld.{told}
use Rattle.commands_snapshot.proofs.outcome_laws.snapshot_over_world.Goals as goal

pub returns : goal.returns
returns g c = told _ c.tells_of_trees.ensures
