use Rattle.std.proofs.Common.{length}
use Rattle.object_making.proofs.Taking.{HasTaken}
use Rattle.object_making.proofs.listings.read_listing.Given as goal

abbrev pub invariant-rows : goal.invariant-rows
invariant-rows l = HasTaken l.text l.rest l.listing l.room

abbrev pub decreases-rows : goal.decreases-rows
decreases-rows l = length l.rest
