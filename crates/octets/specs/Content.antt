-- What an object holds that may tell it or not: None where it does not tell.
use Rattle.std.specs.Prelude.{◌≡◌, ◌++◌, ◌<◌, ℕ, List, length, Option, Some, None}

-- what there is where these bytes stand before it
abbrev pub with_front : List ℕ → Option (List ℕ) → Option (List ℕ)
with_front front None = None
with_front front (Some rest) = Some (front ++ rest)

-- what there is where these bytes stand after it
abbrev pub with_end : Option (List ℕ) → List ℕ → Option (List ℕ)
with_end None bytes = None
with_end (Some before) bytes = Some (before ++ bytes)

-- a front of the bytes was added at the end, but not all of them, and nothing else
pub record GainsPart (before after : Option (List ℕ)) (bytes : List ℕ) : Type 0 where
  pub front : List ℕ
  pub rest : List ℕ
  pub whole : bytes ≡ front ++ rest
  pub less : 0 < length rest
  pub gained : after ≡ with_end before front

-- what is told now was told before, and the two are so related; telling may end and never begins
abbrev pub Told : {X : Type 0} → (X → X → Type 0) → Option X → Option X → Type 0
Told {X} related before after = (now : X) → after ≡ Some now → (was : X) × (before ≡ Some was) × related was now

-- what is told now was told before, and is the same
abbrev pub Stays : {X : Type 0} → Option X → Option X → Type 0
Stays {X} before after = (now : X) → after ≡ Some now → before ≡ Some now
