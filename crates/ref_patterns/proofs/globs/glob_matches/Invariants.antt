use Rattle.std.proofs.Common.{◌≡◌, ◌∷◌, length}
use Rattle.ref_patterns.specs.Globs.{matches}
use Rattle.ref_patterns.proofs.globs.glob_matches.Given as goal

abbrev pub invariant-stars : goal.invariant-stars
invariant-stars l = record { same : matches l.glob l.text ≡ matches (42 ∷ l.after) l.left }

abbrev pub decreases-stars : goal.decreases-stars
decreases-stars l = length l.after
