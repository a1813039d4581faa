use Rattle.std.proofs.Common.{length}
use Rattle.keeper_directory.proofs.listings.ids_among.Given as goal

abbrev pub decreases-names : goal.decreases-names
decreases-names l = length l.rest
