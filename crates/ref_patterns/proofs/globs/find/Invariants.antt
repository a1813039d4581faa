use Rattle.std.proofs.Common.{◌≡◌, length}
use Rattle.ref_patterns.specs.Globs.{after_star, matches}
use Rattle.ref_patterns.proofs.globs.find.Given as goal

abbrev pub invariant-places : goal.invariant-places
invariant-places l = record { same : after_star (matches l.rest) l.text ≡ after_star (matches l.rest) l.left }

abbrev pub decreases-places : goal.decreases-places
decreases-places l = length l.left
