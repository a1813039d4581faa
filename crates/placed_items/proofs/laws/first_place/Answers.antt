use Rattle.placed_items.proofs.Placing.{first_place}
use Rattle.placed_items.proofs.laws.first_place.Goals as goal

pub returns : goal.returns
returns g c = first_place g.T.Identified.id
