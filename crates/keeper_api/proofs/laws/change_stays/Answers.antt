use Rattle.keeper_api.proofs.Growing.{stays}
use Rattle.keeper_api.proofs.laws.change_stays.Goals as goal

pub returns : goal.returns
returns c = stays
