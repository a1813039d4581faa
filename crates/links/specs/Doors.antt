-- Which links a door gives, and which it has back, where it tells them.
use Rattle.std.specs.Prelude.{◌≡◌, ◌++◌, ◌∷◌, [], List, Option, Some, None, IfSome}

-- the links that are there where this one stands after them
abbrev pub with_last : {X : Type 0} → Option (List X) → X → Option (List X)
with_last None x = None
with_last (Some before) x = Some (before ++ x ∷ [])

-- the links that are there where these stand in front of them
abbrev pub with_first : {X : Type 0} → List X → Option (List X) → Option (List X)
with_first front None = None
with_first front (Some rest) = Some (front ++ rest)

-- the first that was waiting is given, or none was
abbrev pub Gives : {X : Type 0} → Option X → Option (List X) → Option (List X) → Type 0
Gives None before after = IfSome before (λ waiting. waiting ≡ []) × (after ≡ before)
Gives (Some x) before after = before ≡ with_first (x ∷ []) after
