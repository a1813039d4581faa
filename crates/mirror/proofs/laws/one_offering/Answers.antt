use Rattle.mirror.proofs.OneOffers.{one_offering}
use Rattle.mirror.proofs.laws.one_offering.Goals as goal

pub returns : goal.returns
returns c = one_offering
