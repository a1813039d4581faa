-- Texts of whole numbers of any size: decimal digits without a sign or a leading zero.
use Rattle.std.specs.Prelude.{◌≡◌, ◌<◌, ℕ, List, length, slice_index}
use Rattle.std.specs.Char.{is_ascii_digit}
use Rattle.std.specs.List.{AllPass}
use Rattle.std.specs.Str.Parse.{digits_value}

-- one digit or more, and the first of several is no zero
pub record IsNumber (text : List ℕ) : Type 0 where
  pub digits : AllPass is_ascii_digit text
  pub some : 0 < length text
  pub one_form : slice_index text 0 ≡ 48 → length text ≡ 1

-- the number that a text writes
abbrev pub number_of : List ℕ → ℕ
number_of text = digits_value 10 text
