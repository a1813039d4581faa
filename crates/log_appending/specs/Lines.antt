-- The lines that the commands print.
use Rattle.std.specs.Prelude.{◌++◌, ℕ, List, codes, decimal}
use Rattle.hex.specs.Hex.{encode_lower}
use Rattle.log_appending.specs.declared.appending.Appended.{Appended}

-- an entry that was appended: `entry `, its number, a space, its id, in lower-case hexadecimal
abbrev pub entry_line : Appended → List ℕ
entry_line appended = codes "entry " ++ decimal appended.number ++ codes " " ++ encode_lower appended.id ++ codes "\n"

-- the commit at which the log breaks
abbrev pub break_line : List ℕ → List ℕ
break_line id = codes "log-broken " ++ encode_lower id ++ codes "\n"
