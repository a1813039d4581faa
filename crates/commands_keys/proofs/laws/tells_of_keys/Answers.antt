use Rattle.commands_keys.proofs.ToldOutcome.{tells_of_keys}
use Rattle.commands_keys.proofs.laws.tells_of_keys.Goals as goal

pub returns : goal.returns
returns g c = tells_of_keys g.D.Disk
