-- The body of a push, of which some bytes were read with the head.
use Rattle.std.specs.Prelude.{◌≡◌, ◌≤◌, ◌<◌, ◌++◌, ℕ, Bool, true, false, List, Option, length, take}
use Rattle.octets.specs.Content.{with_front}
use Rattle.edge_io.specs.Read.{IsAtEnd}
use Rattle.desk_messages.specs.declared.bodies.BodyFault.{BodyFault}
use Rattle.desk_messages.specs.declared.bodies.BodyFault.TheVariants.{Cut, Failed, Memory}

-- the body was read, and no byte behind it but those that had come with the head
pub record HasBody (begun : List ℕ) (len : ℕ) (before after : Option (List ℕ)) (body : List ℕ) : Type 0 where
  pub more : List ℕ
  pub read : before ≡ with_front more after
  pub body_is : body ≡ take len (begun ++ more)
  pub long : len ≤ length (begun ++ more)

-- the input ended inside it
pub record IsCut (begun : List ℕ) (len : ℕ) (before after : Option (List ℕ)) : Type 0 where
  pub more : List ℕ
  pub read : before ≡ with_front more after
  pub ends : IsAtEnd after
  pub short : length (begun ++ more) < len

abbrev pub body_failed : BodyFault → Bool
body_failed Cut = false
body_failed Failed = true
body_failed Memory = false
