use Rattle.object_making.proofs.Lawful.{listing_is}
use Rattle.object_making.proofs.laws.listings.Goals as goal

pub returns : goal.returns
returns c = listing_is
