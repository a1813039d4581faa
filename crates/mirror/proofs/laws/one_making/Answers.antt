use Rattle.mirror.proofs.OneOffers.{one_making}
use Rattle.mirror.proofs.laws.one_making.Goals as goal

pub returns : goal.returns
returns c = one_making c.logs.ensures.one_log
