use Rattle.desk_shops.proofs.Standing.{opens}
use Rattle.desk_shops.proofs.shops.Shop.new.Goals as goal

pub returns-clause-opens : goal.returns-clause-opens
returns-clause-opens g c = opens g.R.Keeper c.args.keeper c.args.state
