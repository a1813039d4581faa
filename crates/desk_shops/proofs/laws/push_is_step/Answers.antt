use Rattle.desk_shops.proofs.Desks.{push_is_step}
use Rattle.desk_shops.proofs.laws.push_is_step.Goals as goal

pub returns : goal.returns
returns g c = push_is_step g.R.Keeper
