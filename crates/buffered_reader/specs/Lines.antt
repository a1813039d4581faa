-- Lines of a text: at most 399 bytes, and a line feed after them.
use Rattle.std.specs.Prelude.{◌≡◌, ◌≤◌, ◌++◌, ℕ, false, List, length}
use Rattle.text_reader.specs.Line.{has_byte}

-- the bytes of a line, or of the front of one that is cut
pub record IsLine (line : List ℕ) : Type 0 where
  pub one : has_byte 10 line ≡ false
  pub short : length line ≤ 399

-- 400 bytes without a line feed stand in front
pub record IsLong (text : List ℕ) : Type 0 where
  pub front : List ℕ
  pub more : List ℕ
  pub whole : text ≡ front ++ more
  pub one : has_byte 10 front ≡ false
  pub long : length front ≡ 400
