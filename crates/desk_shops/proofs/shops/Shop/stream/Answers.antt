use Rattle.desk_shops.proofs.Streams.{stream_stands, stream_told}
use Rattle.desk_shops.proofs.shops.Shop.stream.Goals as goal

pub returns-clause-stands : goal.returns-clause-stands
returns-clause-stands g c =
    λ h is. stream_stands g.R.Keeper c.args.self.now.keeper c.stream_text.new.keeper c.args.self.now.state c.stream_text.result c.stream_text.ensures.same h is c.stream_text.ensures.cause

pub returns-clause-told : goal.returns-clause-told
returns-clause-told g c =
    λ h r is held. stream_told g.R.Keeper c.args.self.now.keeper c.stream_text.new.keeper c.args.self.now.state c.stream_text.result c.stream_text.ensures.same h is c.requires.clear c.stream_text.ensures.told r held
