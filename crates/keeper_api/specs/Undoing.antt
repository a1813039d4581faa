-- Inserts into a map that can be taken back.
use Rattle.std.specs.Prelude.{◌≡◌, List, [], ◌∷◌, Option}
use Rattle.std.specs.FinMap.{FinMap, get, insert}
use Rattle.std.specs.declared.cmp.Ordering.{Ordering}

-- one insert after the other leads from the first map to the last: for each its key, and what stood there before it
abbrev pub Inserts : {K X : Type 0} {R : K → K → Ordering} → FinMap R X → List (K × Option X) → FinMap R X → Type 0
Inserts first [] last = last ≡ first
Inserts {X = X} first (step ∷ steps) last =
    (v : X) × (step.1 ≡ get first step.0) × Inserts (insert first step.0 v) steps last
