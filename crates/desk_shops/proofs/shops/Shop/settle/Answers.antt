use Rattle.desk_shops.proofs.Standing.{settle_stands}
use Rattle.desk_shops.proofs.shops.Shop.settle.Goals as goal

pub returns-clause-stands : goal.returns-clause-stands
returns-clause-stands g c = settle_stands g.R.Keeper c.args.self.now.keeper c.settle.new.keeper c.args.self.now.state c.settle.new.self c.settle.result c.settle.ensures.engine c.settle.ensures.settles c.settle.ensures.cause
