use Rattle.std.proofs.Common.{length}
use Rattle.keeper_directory.specs.Stores.{IsOneOf}
use Rattle.keeper_directory.proofs.NamesLeft.{IsLeft}
use Rattle.keeper_directory.proofs.stores.is_among.Given as goal

abbrev pub invariant-names : goal.invariant-names
invariant-names l = record { left : IsLeft (IsOneOf l.fn.wanted) l.fn.names l.rest }

abbrev pub decreases-names : goal.decreases-names
decreases-names l = length l.rest
