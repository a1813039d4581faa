-- A disk that tells nothing.
use Rattle.std.specs.Prelude.{◌≡◌, List, ℕ, Option, None, Some}

pub told_nothing : (bytes : List ℕ) (seen : Option (List ℕ)) → seen ≡ None → seen ≡ Some bytes → ⊥
told_nothing bytes seen none told = cc
