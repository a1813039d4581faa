-- Listings: one row after the other, each of a mode, a size, a path and so many bytes.
use Rattle.std.specs.Prelude.{◌≡◌, ◌≤◌, ◌+◌, ◌++◌, ◌∷◌, [], ℕ, List, length, false, decimal}
use Rattle.std.specs.List.{AllByRecursion}
use Rattle.text_reader.specs.Line.{has_byte}
use Rattle.git_object.specs.Modes.{mode_text}
use Rattle.git_object.specs.Repository.{largest_body}
use Rattle.git_object.specs.declared.modes.Mode.{Mode}
use Rattle.git_object.specs.declared.modes.Mode.TheVariants.{Dir, File, Exec, Link, Module}

-- what stands at a path
pub record Row : Type 0 where
  pub mode : Mode
  pub path : List ℕ
  pub body : List ℕ

-- a file, an executable file, or a symbolic link
abbrev pub IsFileMode : Mode → Type 0
IsFileMode Dir = ⊥
IsFileMode File = Unit {0}
IsFileMode Exec = Unit {0}
IsFileMode Link = Unit {0}
IsFileMode Module = ⊥

-- a path that ends at the first line feed and has at most 4,096 bytes, and at most 16 MiB
pub record IsRow (row : Row) : Type 0 where
  pub mode : IsFileMode row.mode
  pub line : has_byte 10 row.path ≡ false
  pub short : length row.path ≤ 4096
  pub small : length row.body ≤ largest_body

-- a row, and then this: the octal digits of its mode, a space, how many bytes it has in decimal, a space, its path, a
-- line feed, its bytes, a line feed
abbrev pub row_then : Row → List ℕ → List ℕ
row_then row rest = mode_text row.mode ++ 32
    ∷ (decimal (length row.body) ++ 32 ∷ (row.path ++ 10 ∷ (row.body ++ 10 ∷ rest)))

-- one row after the other, and then this
abbrev pub rows_then : List Row → List ℕ → List ℕ
rows_then [] rest = rest
rows_then (row ∷ rows) rest = row_then row (rows_then rows rest)

-- how many bytes the paths have
abbrev pub path_bytes : List Row → ℕ
path_bytes [] = 0
path_bytes (row ∷ rows) = length row.path + path_bytes rows

-- at most 262,144 rows, with at most 64 MiB of paths
pub record AreRows (rows : List Row) : Type 0 where
  pub each : AllByRecursion IsRow rows
  pub few : length rows ≤ 262144
  pub short : path_bytes rows ≤ 67108864

-- the text is that of these rows
pub record IsListingText (rows : List Row) (text : List ℕ) : Type 0 where
  pub are : AreRows rows
  pub text_is : text ≡ rows_then rows []
