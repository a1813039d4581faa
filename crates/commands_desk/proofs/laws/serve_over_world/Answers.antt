use Rattle.commands_desk.proofs.ToldWorld.{told}
use Rattle.commands_desk.proofs.laws.serve_over_world.Goals as goal

pub returns : goal.returns
returns g c = told _
