use Rattle.commands_desk.proofs.PushToldWorld.{told}
use Rattle.commands_desk.proofs.push_laws.push_over_world.Goals as goal

pub returns : goal.returns
returns g c = told _
