use Rattle.mirror.proofs.ManyOffers.{all_offers}
use Rattle.mirror.proofs.laws.only_grows.Goals as goal

pub returns : goal.returns
returns c = all_offers c.logs.ensures.one_log
