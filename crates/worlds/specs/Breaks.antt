-- The line that names the break of a log.
use Rattle.std.specs.Prelude.{ℕ, ◌++◌, List, codes}
use Rattle.hex.specs.Hex.{encode_lower}

-- the line of a log that breaks at this id
abbrev pub break_line : List ℕ → List ℕ
break_line id = codes "log-broken " ++ encode_lower id ++ codes "\n"
