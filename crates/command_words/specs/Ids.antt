-- Lists of ids in the text of an argument.
use Rattle.std.specs.Prelude.{◌≡◌, ◌≤◌, ℕ, List, length, map}
use Rattle.std.specs.List.{All, join_with_byte}
use Rattle.hex.specs.Hex.{encode_lower}
use Rattle.git_object.specs.Ids.{IsId}

-- the text is ids in lower-case hexadecimal with a comma (44) between each two: one id at least, and so many at most
pub record AreIds (most : ℕ) (text : List ℕ) (ids : List (List ℕ)) : Type 0 where
  pub are : All IsId ids
  pub some : 1 ≤ length ids
  pub few : length ids ≤ most
  pub written : text ≡ join_with_byte 44 (map encode_lower ids)
