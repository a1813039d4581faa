-- The modes of a tree's entries (Git's tree object).
use Rattle.std.specs.Prelude.{◌∷◌, [], ℕ, List, codes}
use Rattle.git_object.specs.declared.modes.Mode.{Mode}
use Rattle.git_object.specs.declared.modes.Mode.TheVariants.{Dir, File, Exec, Link, Module}

-- the octal digits of a mode
abbrev pub mode_text : Mode → List ℕ
mode_text Dir = codes "40000"
mode_text File = codes "100644"
mode_text Exec = codes "100755"
mode_text Link = codes "120000"
mode_text Module = codes "160000"

-- what a name is taken to end in where entries are ordered: a slash for a directory
abbrev pub key_end : Mode → List ℕ
key_end Dir = 47 ∷ []
key_end File = []
key_end Exec = []
key_end Link = []
key_end Module = []
