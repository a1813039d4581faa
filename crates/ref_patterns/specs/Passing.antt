-- Passing the bytes of a glob up to its next star.
use Rattle.std.specs.Prelude.{◌≡◌, ◌++◌, ◌+◌, ◌≤◌, ℕ, ◌==◌, Bool, true, false, List, [], ◌∷◌, length, drop}
use Rattle.std.specs.List.{AllByRecursion}
use Rattle.ref_patterns.specs.Globs.{after_star, matches}
use Rattle.ref_patterns.specs.declared.globs.Pass.{Pass}
use Rattle.ref_patterns.specs.declared.globs.Pass.TheVariants.{Star, Whole, Stuck}

-- bytes of the glob, of which none is a star, were passed, each with one of the text
pub record IsPassed (glob text rest left : List ℕ) : Type 0 where
  pub mid : List ℕ
  pub plain : AllByRecursion (λ p. (p == 42) ≡ false) mid
  pub front : glob ≡ mid ++ rest
  pub within : length mid ≤ length text
  pub place : left ≡ drop (length mid) text
  pub same : matches glob text ≡ matches rest left

-- what passing comes to
abbrev pub IsPass : List ℕ → List ℕ → Pass → Type 0
IsPass glob text (Star after left) = IsPassed glob text (42 ∷ after.now) left.now
IsPass glob text Whole = matches glob text ≡ true
IsPass glob text Stuck = matches glob text ≡ false

abbrev pub is_stuck : Pass → Bool
is_stuck (Star after left) = false
is_stuck Whole = false
is_stuck Stuck = true

-- what looking for a place comes to from which the rest after a star can be passed
abbrev pub IsFound : List ℕ → List ℕ → Pass → Type 0
IsFound rest text (Star after left) = (after_star (matches rest) text ≡ matches (42 ∷ after.now) left.now)
    × (length after.now + 1 ≤ length rest)
IsFound rest text Whole = after_star (matches rest) text ≡ true
IsFound rest text Stuck = after_star (matches rest) text ≡ false
