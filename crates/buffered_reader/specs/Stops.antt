-- Calls that stopped in the middle of what they were to take.
use Rattle.std.specs.Prelude.{◌≡◌, ◌<◌, ◌+◌, ◌∷◌, [], ℕ, List, length, false, Option}
use Rattle.octets.specs.Content.{with_front}
use Rattle.text_reader.specs.Line.{has_byte}
use Rattle.buffered_reader.specs.Ahead.{Reading}

-- the source failed after a part was taken, and nothing is buffered
pub record StopsAfter (IsPart : List ℕ → Type 0) (was now : Reading) (before after : Option (List ℕ)) : Type 0 where
  pub part : List ℕ
  pub is : IsPart part
  pub read : before ≡ with_front part after
  pub taken : now.taken ≡ was.taken + length part
  pub drained : now.buffered ≡ []

-- the input ended in the middle: what was there is a part, it was taken, and nothing is buffered
pub record EndsIn (IsPart : List ℕ → Type 0) (was now : Reading) (rest : List ℕ) : Type 0 where
  pub is : IsPart rest
  pub taken : now.taken ≡ was.taken + length rest
  pub drained : now.buffered ≡ []

-- fewer bytes than so many
abbrev pub IsShorter : ℕ → List ℕ → Type 0
IsShorter count part = length part < count

-- 400 bytes without a line feed were taken
pub record TakesLong (was now : Reading) (before after : Option (List ℕ)) : Type 0 where
  pub part : List ℕ
  pub read : before ≡ with_front part after
  pub one : has_byte 10 part ≡ false
  pub long : length part ≡ 400
  pub taken : now.taken ≡ was.taken + 400

-- one byte was taken off the front
pub record TakesOne (before after : Option (List ℕ)) : Type 0 where
  pub byte : ℕ
  pub read : before ≡ with_front (byte ∷ []) after
