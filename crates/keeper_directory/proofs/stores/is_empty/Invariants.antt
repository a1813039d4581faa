use Rattle.std.proofs.Common.{length}
use Rattle.keeper_directory.specs.Stores.{AreDots}
use Rattle.keeper_directory.proofs.NamesLeft.{IsLeft}
use Rattle.keeper_directory.proofs.stores.is_empty.Given as goal

abbrev pub invariant-names : goal.invariant-names
invariant-names l = record { left : IsLeft (AreDots) l.fn.names l.rest }

abbrev pub decreases-names : goal.decreases-names
decreases-names l = length l.rest
