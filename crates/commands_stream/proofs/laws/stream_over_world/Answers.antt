use Rattle.commands_stream.proofs.ToldWorld.{told}
use Rattle.commands_stream.proofs.laws.stream_over_world.Goals as goal

pub returns : goal.returns
returns g c = told _ c.tells_of_stream.ensures
