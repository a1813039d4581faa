-- What a reader has before it: the bytes up to its limit, and those past it.
use Rattle.std.specs.Prelude.{◌-◌, ℕ, List, Option, take, drop}
use Rattle.std.specs.Option.{option_map}
use Rattle.octets.specs.Content.{with_front}

-- a reader: the bytes that are buffered, how many were taken, and how many may be
pub record Reading : Type 0 where
  pub buffered : List ℕ
  pub taken : ℕ
  pub limit : ℕ

-- what is buffered and then what the source has left, up to the limit
unfoldable pub ahead : Reading → Option (List ℕ) → Option (List ℕ)
ahead r left = option_map (take (r.limit - r.taken)) (with_front r.buffered left)

-- what is buffered and then what the source has left, past the limit
unfoldable pub past : Reading → Option (List ℕ) → Option (List ℕ)
past r left = option_map (drop (r.limit - r.taken)) (with_front r.buffered left)
