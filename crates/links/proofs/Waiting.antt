-- The first of the links that wait.
use Rattle.std.proofs.Common.{◌≡◌, ◌<◌, ◌∷◌, [], List, length, sym, ap, arith}
use Rattle.std.specs.Prelude.{slice_index_or}
use Rattle.std.specs.List.{remove}

pub first_of : {X : Type 0} (links : List X) (first : X) → 0 < length links → first ≡ slice_index_or links 0 first → links ≡ first ∷ remove links 0
first_of [] first some is = absurd (omega (arith, some))
first_of (x ∷ rest) first some is = ap (λ (y : _). y ∷ rest) (sym is)
