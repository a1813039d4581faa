-- Numbers in the text of an argument.
use Rattle.std.specs.Prelude.{◌≡◌, ◌≤◌, ℕ, List, decimal}

-- a number from 1 to a limit
pub record IsUpTo (most count : ℕ) : Type 0 where
  pub some : 1 ≤ count
  pub few : count ≤ most

-- the text is a number from 1 to a limit in decimal
pub record IsCount (most : ℕ) (text : List ℕ) (count : ℕ) : Type 0 where
  pub some : 1 ≤ count
  pub few : count ≤ most
  pub written : text ≡ decimal count
