use Rattle.desk_shops.proofs.Asking.{shop_holds}
use Rattle.desk_shops.proofs.gate_laws.shop_holds.Goals as goal

pub returns : goal.returns
returns g c = shop_holds g.R.Keeper
