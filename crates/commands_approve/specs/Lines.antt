-- The line that `approve` prints.
use Rattle.std.specs.Prelude.{◌++◌, ℕ, List, codes}
use Rattle.hex.specs.Hex.{encode_lower}
use Rattle.commands_approve.specs.declared.ends.Ends.{Ends}

-- an approval that is kept: `approval `, the target that it goes from, a space, the tree that it goes to, in lower-case
-- hexadecimal
abbrev pub approval_line : Ends → List ℕ
approval_line ends = codes "approval " ++ encode_lower ends.from ++ codes " " ++ encode_lower ends.tree ++ codes "\n"
