use Rattle.std.proofs.Common.{length}
use Rattle.keeper_directory.proofs.listings.look_into.Given as goal

abbrev pub decreases-names : goal.decreases-names
decreases-names g l = length l.rest
