-- What is written at the end of a text.
use Rattle.std.specs.Prelude.{◌≡◌, ◌++◌, ◌==◌, ◌&&◌, ℕ, List, Bool, true, nat_le, not}
use Rattle.serde_json.specs.Data.{Members, object}
use Rattle.serde_json.specs.Written.{compact_text, members_text}

-- whether a byte stands for itself between quotes
abbrev pub is_plain : ℕ → Bool
is_plain byte = nat_le 32 byte && not (byte == 34) && not (byte == 92)

-- the first fields of an object were written: whatever fields follow them, that is the object of all
pub record Opens (fields : Members → Members) (old new : List ℕ) : Type 0 where
  pub is : (rest : Members) → new ++ members_text true rest ≡ old ++ compact_text (object (fields rest))

-- fields were written after others, and whatever fields follow them
pub record Follows (fields : Members → Members) (old new : List ℕ) : Type 0 where
  pub is : (rest : Members) → new ++ members_text true rest ≡ old ++ members_text true (fields rest)
