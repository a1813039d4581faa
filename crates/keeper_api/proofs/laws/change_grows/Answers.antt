use Rattle.keeper_api.proofs.Growing.{grows}
use Rattle.keeper_api.proofs.laws.change_grows.Goals as goal

pub returns : goal.returns
returns c = grows
